-- Pairs put in the order of their names' bytes, each name once. These are definitions: they assume nothing.
use Rattle.std.specs.Prelude.{◌≡◌, ℕ, Bool, true, cond, ◌&&◌, List, [], ◌∷◌, Some, None, Ok, Err, Option, Result}
use Rattle.std.specs.Option.{option_map}
use Rattle.octets.specs.Bytes.{bytes_lt, bytes_eq}
use Rattle.cli.specs.declared.context.Pair as declared
use Rattle.cli.specs.declared.context.AddError.{AddError}
use Rattle.cli.specs.declared.context.AddError.TheVariants.{Twice, Memory}

pub record NamedValue : Type 0 where
  pub name : List ℕ
  pub value : List ℕ

abbrev pub pair_of : declared.Pair → NamedValue
pair_of p = record { name = p.name.now; value = p.value.now }

-- a pair in its place: before the first name that is above its own; none where its own name is there
unfoldable pub with_pair : NamedValue → List NamedValue → Option (List NamedValue)
with_pair p [] = Some (p ∷ [])
with_pair p (q ∷ qs) = cond (bytes_lt q.name p.name) (option_map (λ rs. q ∷ rs) (with_pair p qs)) (cond (bytes_eq q.name p.name) None (Some (p ∷ (q ∷ qs))))

-- names in strictly rising order, so each once
unfoldable pub rising : List NamedValue → Bool
rising [] = true
rising (p ∷ []) = true
rising (p ∷ (q ∷ qs)) = bytes_lt p.name q.name && rising (q ∷ qs)

-- where the pairs were in order they still are, and a refused pair leaves them as they were
abbrev pub Adds : NamedValue → List NamedValue → Result (Unit {0}) AddError → List NamedValue → Type 0
Adds p old (Ok u) new = (with_pair p old ≡ Some new) × (rising old ≡ true → rising new ≡ true)
Adds p old (Err Twice) new = (with_pair p old ≡ None) × (new ≡ old)
Adds p old (Err Memory) new = new ≡ old
