-- What one call at an end of a stream says of the bytes that came or went so far. These are definitions: they assume nothing.
use Rattle.std.specs.Prelude.{◌≡◌, ℕ, ◌<◌, ◌≤◌, List, ◌++◌, length, take, Ok, Err, Result}

-- n bytes came: they stand at the front of the lent bytes, after all that came before; fewer than there was room for only at the end
pub record Came (before after : List ℕ → Type 0) (ended : Type 0) (old : List ℕ) (n : ℕ) (bytes : List ℕ) : Type 0 where
  pub same_length : length bytes ≡ length old
  pub within : n ≤ length bytes
  pub next : (m : List ℕ) → before m → after (m ++ take n bytes)
  pub end : n < length bytes → ended

abbrev pub Comes : {E : Type 0} → (List ℕ → Type 0) → (List ℕ → Type 0) → Type 0 → List ℕ → Result ℕ E → List ℕ → Type 0
Comes before after ended old (Ok n) bytes = Came before after ended old n bytes
Comes before after ended old (Err e) bytes = length bytes ≡ length old

abbrev pub Goes : {E : Type 0} → (List ℕ → Type 0) → (List ℕ → Type 0) → List ℕ → Result (Unit {0}) E → Type 0
Goes before after bytes (Ok x) = (m : List ℕ) → before m → after (m ++ bytes)
Goes before after bytes (Err e) = Unit {0}
