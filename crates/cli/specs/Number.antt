-- Numbers as decimal digits, within bounds. These are definitions: they assume nothing.
use Rattle.std.specs.Prelude.{ℕ, ◌+◌, ◌-◌, ◌*◌, cond, List, [], ◌∷◌, Some, None, Option, Ok, Err, Result, nat_le}
use Rattle.cli.specs.declared.number.NumberError.{NumberError}
use Rattle.cli.specs.declared.number.NumberError.TheVariants.{NoDigits, OutOfRange}
use Rattle.cli.specs.Hex.{between}

abbrev pub decimal_digit : ℕ → Option ℕ
decimal_digit c = cond (between 48 57 c) (Some (c - 48)) None

abbrev pub next_digit : ℕ → ℕ → Option ℕ → (ℕ → Result ℕ NumberError) → Result ℕ NumberError
next_digit high n None rest = Err NoDigits
next_digit high n (Some d) rest = cond (nat_le (n * 10 + d) high) (rest (n * 10 + d)) (Err OutOfRange)

-- n and then the digits, which are read until one is none, or the number is above the bound
unfoldable pub digits_on : ℕ → ℕ → List ℕ → Result ℕ NumberError
digits_on high n [] = Ok n
digits_on high n (c ∷ cs) = next_digit high n (decimal_digit c) (λ m. digits_on high m cs)

abbrev pub at_least : ℕ → Result ℕ NumberError → Result ℕ NumberError
at_least low (Ok n) = cond (nat_le low n) (Ok n) (Err OutOfRange)
at_least low (Err e) = Err e

abbrev pub number_within : ℕ → ℕ → List ℕ → Result ℕ NumberError
number_within low high [] = Err NoDigits
number_within low high (c ∷ cs) = at_least low (digits_on high 0 (c ∷ cs))
