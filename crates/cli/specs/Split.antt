-- A text in two, at the first or the last place of a byte. These are definitions: they assume nothing.
use Rattle.std.specs.Prelude.{ℕ, Bool, cond, List, [], ◌∷◌, Some, None, Option, ◌==◌}
use Rattle.std.specs.Borrow.{Bor}
use Rattle.std.specs.Option.{option_map}
use Rattle.cli.specs.declared.split.DataKeyWord.{DataKeyWord}

-- the parts before and after
pub record Parts : Type 0 where
  pub before : List ℕ
  pub after : List ℕ

abbrev pub longer : ℕ → Parts → Parts
longer x p = record { before = x ∷ p.before; after = p.after }

unfoldable pub split_first : ℕ → List ℕ → Option Parts
split_first c [] = None
split_first c (x ∷ xs) = cond (x == c) (Some (record { before = []; after = xs })) (option_map (longer x) (split_first c xs))

abbrev pub or_here : Bool → List ℕ → Option Parts → Option Parts
or_here here xs (Some p) = Some p
or_here here xs None = cond here (Some (record { before = []; after = xs })) None

unfoldable pub split_last : ℕ → List ℕ → Option Parts
split_last c [] = None
split_last c (x ∷ xs) = or_here (x == c) xs (option_map (longer x) (split_last c xs))

-- what two lent texts hold
abbrev pub parts : Bor (List ℕ) × Bor (List ℕ) → Parts
parts p = record { before = p.0.now; after = p.1.now }

-- PROVIDER_ID:PROVIDER_INFO:FILE: the first part has no colon, nor has the last
pub record DataKeyParts : Type 0 where
  pub provider_id : List ℕ
  pub provider_info : List ℕ
  pub file : List ℕ

abbrev pub after_id : List ℕ → Parts → DataKeyParts
after_id id p = record { provider_id = id; provider_info = p.before; file = p.after }

abbrev pub split_rest : Option Parts → Option DataKeyParts
split_rest None = None
split_rest (Some p) = option_map (after_id p.before) (split_last 58 p.after)

abbrev pub split_data_key : List ℕ → Option DataKeyParts
split_data_key bs = split_rest (split_first 58 bs)

abbrev pub data_key_parts : DataKeyWord → DataKeyParts
data_key_parts w = record { provider_id = w.provider_id.now; provider_info = w.provider_info.now; file = w.file.now }
