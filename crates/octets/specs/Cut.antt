-- Bytes and numbers cut off the front of bytes: none or one. These are definitions: they assume nothing.
use Rattle.std.specs.Prelude.{ℕ, Bool, true, false, List, [], ◌∷◌, length, Some, None, Option, nat_le}
use Rattle.std.specs.Borrow.{Bor}
use Rattle.octets.specs.Bits.{pick}
use Rattle.octets.specs.Bytes.{take, drop, of_bytes}

-- n bytes cut off the front
pub record Cut : Type 0 where
  pub front : List ℕ
  pub rest : List ℕ

abbrev pub cut : ℕ → List ℕ → List Cut
cut n bs = pick (nat_le n (length bs)) (record { front = take n bs; rest = drop n bs } ∷ []) []

unfoldable pub and_then : {A B : Type 0} → List A → (A → List B) → List B
and_then [] f = []
and_then (x ∷ xs) f = f x

unfoldable pub guard : {A : Type 0} → Bool → List A → List A
guard true xs = xs
guard false xs = []

-- a number of k bytes cut off the front
pub record CutNumber : Type 0 where
  pub value : ℕ
  pub rest : List ℕ

abbrev pub cut_number : ℕ → List ℕ → List CutNumber
cut_number k bs = and_then (cut k bs) (λ c. record { value = of_bytes c.front; rest = c.rest } ∷ [])

-- what the code's results stand for
abbrev pub cuts : Option (Bor (List ℕ) × Bor (List ℕ)) → List Cut
cuts None = []
cuts (Some c) = record { front = c.0.now; rest = c.1.now } ∷ []

abbrev pub word_cuts : {A : Type 0} → (A → ℕ) → Option (A × Bor (List ℕ)) → List CutNumber
word_cuts value None = []
word_cuts value (Some c) = record { value = value c.0; rest = c.1.now } ∷ []
