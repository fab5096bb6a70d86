-- What words of a command line give: none or one of a kind, pairs in order, encrypted data keys. These are definitions: they assume nothing.
use Rattle.std.specs.Prelude.{ℕ, Bool, true, false, List, [], ◌∷◌, Some, None, Option}
use Rattle.cli.specs.Context.{NamedValue, with_pair}
use Rattle.cli.specs.Split.{Parts, split_first, DataKeyParts, data_key_parts}
use Rattle.cli.specs.declared.split.DataKeyWord.{DataKeyWord}

-- none or one, as a list
abbrev pub listed : {A : Type 0} → Option A → List A
listed None = []
listed (Some t) = t ∷ []

-- whether there is any
abbrev pub some_of : List (List ℕ) → Bool
some_of [] = false
some_of (t ∷ ts) = true

-- the words' pairs, each put in its place among those before it
abbrev pub put_pair : Option Parts → List NamedValue → Option (List NamedValue)
put_pair None ps = None
put_pair (Some p) ps = with_pair (record { name = p.before; value = p.after }) ps

abbrev pub then_on : Option (List NamedValue) → (List NamedValue → Option (List NamedValue)) → Option (List NamedValue)
then_on None f = None
then_on (Some ps) f = f ps

unfoldable pub context_from : List NamedValue → List (List ℕ) → Option (List NamedValue)
context_from ps [] = Some ps
context_from ps (t ∷ ts) = then_on (put_pair (split_first 61 t) ps) (λ qs. context_from qs ts)

abbrev pub some_parts : DataKeyWord → Option DataKeyParts
some_parts w = Some (data_key_parts w)
