-- Hexadecimal digits are read from the left: what two more digits, or one that is none, do to the whole.
use Rattle.std.proofs.Common.{◌≡◌, ℕ, ◌+◌, ◌*◌, ◌<◌, ◌≤◌, List, [], ◌∷◌, ◌++◌, length, get_or, take, drop, set, Some, None, Option, sym, refl, ap, append_assoc, append-nil, arith, take_all}
use Rattle.std.proofs.lemmas.List.{drop_more, drop_all, take_more_set}
use Rattle.std.specs.Option.{option_map}
use Rattle.std.proofs.lemmas.Bool.{eq-eqb, cond-true}
use Rattle.cli.specs.Hex.{digit, byte_before, unhex, unhex_32}

-- the bytes so far, and what is left
abbrev pub read_on : List ℕ → Option (List ℕ) → Option (List ℕ)
read_on done rest = option_map (λ bs. done ++ bs) rest

two_digits : (ds : List ℕ) (i : ℕ) → 2 * i + 1 < length ds → unhex (drop (2 * i) ds) ≡ byte_before (digit (get_or ds (2 * i) 0)) (digit (get_or ds (2 * i + 1) 0)) (unhex (drop (2 * (i + 1)) ds))
unfolding unhex
two_digits ds i h =
    let a = drop_more ds (2 * i) 0 (omega arith) in
    let b = drop_more ds (2 * i + 1) 0 h in
    let e : 2 * i + 1 + 1 ≡ 2 * (i + 1) = omega arith in
    rw (a, b, e) refl

byte_on : (done : List ℕ) (h l : ℕ) (rest : Option (List ℕ)) → read_on done (byte_before (Some h) (Some l) rest) ≡ read_on (done ++ ((h * 16 + l) ∷ [])) rest
byte_on done h l None = refl
byte_on done h l (Some bs) = ap Some (sym (append_assoc done ((h * 16 + l) ∷ []) bs))

pub byte_more : (ds out : List ℕ) (i h l : ℕ) → length ds ≡ 64 → length out ≡ 32 → i < 32 → Some h ≡ digit (get_or ds (2 * i) 0) → Some l ≡ digit (get_or ds (2 * i + 1) 0)
    → read_on (take (i + 1) (set out i (h * 16 + l))) (unhex (drop (2 * (i + 1)) ds)) ≡ read_on (take i out) (unhex (drop (2 * i) ds))
byte_more ds out i h l n m lt p q =
    let k : 2 * i + 1 < length ds = omega arith in
    let t : i < length out = omega arith in
    rw (two_digits ds i k, ← p, ← q, take_more_set out i (h * 16 + l) t) (sym (byte_on (take i out) h l (unhex (drop (2 * (i + 1)) ds))))

pub no_high_digit : (ds done : List ℕ) (i : ℕ) → length ds ≡ 64 → i < 32 → None ≡ digit (get_or ds (2 * i) 0) → None ≡ read_on done (unhex (drop (2 * i) ds))
no_high_digit ds done i n lt p =
    let k : 2 * i + 1 < length ds = omega arith in
    rw (two_digits ds i k, ← p) refl

pub no_low_digit : (ds done : List ℕ) (i h : ℕ) → length ds ≡ 64 → i < 32 → Some h ≡ digit (get_or ds (2 * i) 0) → None ≡ digit (get_or ds (2 * i + 1) 0) → None ≡ read_on done (unhex (drop (2 * i) ds))
no_low_digit ds done i h n lt p q =
    let k : 2 * i + 1 < length ds = omega arith in
    rw (two_digits ds i k, ← p, ← q) refl

pub all_read : (ds out : List ℕ) (i : ℕ) → length ds ≡ 64 → length out ≡ 32 → 32 ≤ i → Some out ≡ read_on (take i out) (unhex (drop (2 * i) ds))
unfolding unhex
all_read ds out i n m h =
    let l : length ds ≤ 2 * i = omega arith in
    let k : length out ≤ i = omega arith in
    rw (drop_all (2 * i) ds l, take_all i out k) (ap Some (sym (append-nil out)))

pub as_32 : (ds : List ℕ) → length ds ≡ 64 → unhex ds ≡ unhex_32 ds
as_32 ds h = sym (cond-true _ (unhex ds) None (eq-eqb (length ds) 64 h))
