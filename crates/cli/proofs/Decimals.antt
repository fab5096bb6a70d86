-- Decimal digits are read from the left: what one more digit, one too many, or a byte that is none, does to the whole.
use Rattle.std.proofs.Common.{◌≡◌, ℕ, ◌+◌, ◌-◌, ◌*◌, ◌<◌, ◌≤◌, true, false, leb, ◌⊎◌, List, length, get_or, drop, Some, None, Ok, Err, sym, refl, ⊎_elim}
use Rattle.std.proofs.lemmas.List.{drop_more, drop_all}
use Rattle.std.proofs.lemmas.Bool.{le-leb, lt-leb, and_left, and_right, and_from, cond-true, cond-false}
use Rattle.cli.specs.declared.number.NumberError.TheVariants.{NoDigits, OutOfRange}
use Rattle.cli.specs.Hex.{between}
use Rattle.cli.specs.Number.{decimal_digit, digits_on}

-- by what the code's own reading of a digit says

pub read_digit_more : (high n d : ℕ) (ds : List ℕ) (i : ℕ) → i < length ds → Some d ≡ decimal_digit (get_or ds i 0) → n * 10 + d ≤ high → digits_on high (n * 10 + d) (drop (i + 1) ds) ≡ digits_on high n (drop i ds)
unfolding digits_on
read_digit_more high n d ds i h p r = rw (drop_more ds i 0 h, ← p, le-leb (n * 10 + d) high r) refl

pub read_digit_too_many : (high n d : ℕ) (ds : List ℕ) (i : ℕ) → i < length ds → Some d ≡ decimal_digit (get_or ds i 0) → high < n * 10 + d → Err OutOfRange ≡ digits_on high n (drop i ds)
unfolding digits_on
read_digit_too_many high n d ds i h p r = rw (drop_more ds i 0 h, ← p, lt-leb (n * 10 + d) high r) refl

pub read_no_digit : (high n : ℕ) (ds : List ℕ) (i : ℕ) → i < length ds → None ≡ decimal_digit (get_or ds i 0) → Err NoDigits ≡ digits_on high n (drop i ds)
unfolding digits_on
read_no_digit high n ds i h p = rw (drop_more ds i 0 h, ← p) refl

-- and by the byte: one from '0' to '9' is a digit, and no other is
is_between : (low high c : ℕ) → low ≤ c → c ≤ high → between low high c ≡ true
is_between low high c p q = and_from (leb low c) (leb c high) (le-leb low c p) (le-leb c high q)

isn't_between : (low high c : ℕ) → (c < low) ⊎ (high < c) → between low high c ≡ false
isn't_between low high c h = ⊎_elim (λ p. and_left (leb low c) (leb c high) (lt-leb low c p)) (λ p. and_right (leb low c) (leb c high) (lt-leb c high p)) h

is_digit : (c : ℕ) → 48 ≤ c → c ≤ 57 → Some (c - 48) ≡ decimal_digit c
is_digit c p q = sym (cond-true _ _ _ (is_between 48 57 c p q))

isn't_digit : (c : ℕ) → (c < 48) ⊎ (57 < c) → None ≡ decimal_digit c
isn't_digit c h = sym (cond-false _ _ _ (isn't_between 48 57 c h))

pub digit_more : (high n : ℕ) (ds : List ℕ) (i : ℕ) → i < length ds → 48 ≤ get_or ds i 0 → get_or ds i 0 ≤ 57 → n * 10 + (get_or ds i 0 - 48) ≤ high
    → digits_on high (n * 10 + (get_or ds i 0 - 48)) (drop (i + 1) ds) ≡ digits_on high n (drop i ds)
digit_more high n ds i h p q r = read_digit_more high n (get_or ds i 0 - 48) ds i h (is_digit (get_or ds i 0) p q) r

pub digit_too_many : (high n : ℕ) (ds : List ℕ) (i : ℕ) → i < length ds → 48 ≤ get_or ds i 0 → get_or ds i 0 ≤ 57 → high < n * 10 + (get_or ds i 0 - 48) → Err OutOfRange ≡ digits_on high n (drop i ds)
digit_too_many high n ds i h p q r = read_digit_too_many high n (get_or ds i 0 - 48) ds i h (is_digit (get_or ds i 0) p q) r

pub no_digit : (high n : ℕ) (ds : List ℕ) (i : ℕ) → i < length ds → (get_or ds i 0 < 48) ⊎ (57 < get_or ds i 0) → Err NoDigits ≡ digits_on high n (drop i ds)
no_digit high n ds i h p = read_no_digit high n ds i h (isn't_digit (get_or ds i 0) p)

pub digits_end : (high n : ℕ) (ds : List ℕ) (i : ℕ) → length ds ≤ i → Ok n ≡ digits_on high n (drop i ds)
unfolding digits_on
digits_end high n ds i h = rw (drop_all i ds h) refl
