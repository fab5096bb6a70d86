-- Two byte strings under exclusive or, byte by byte: how long it is, what stands where, and that twice the same is none.
use Rattle.std.proofs.Common.{◌≡◌, ℕ, zero, suc, ◌<◌, ◌≤◌, true, ltb, List, [], ◌∷◌, length, get_or, refl, ap, ap₂, arith}
use Rattle.std.proofs.lemmas.Bool.{and_parts, ltb-true}
use Rattle.octets.specs.Bits.{bits_xor}
use Rattle.octets.specs.Bytes.{all_bytes, xor_bytes}
use Rattle.octets.proofs.Bits.{bits_xor_twice}

pub length-xor : (xs ys : List ℕ) → length xs ≤ length ys → length (xor_bytes xs ys) ≡ length xs
unfolding xor_bytes
length-xor [] ys h = refl
length-xor (x ∷ xs) [] h = omega arith
length-xor (x ∷ xs) (y ∷ ys) h = ap suc (length-xor xs ys (omega arith))

pub get_or-xor_bytes : (xs ys : List ℕ) (j : ℕ) → j < length xs → j < length ys → get_or (xor_bytes xs ys) j 0 ≡ bits_xor 8 (get_or xs j 0) (get_or ys j 0)
unfolding xor_bytes
get_or-xor_bytes [] ys j h k = omega arith
get_or-xor_bytes (x ∷ xs) [] j h k = omega arith
get_or-xor_bytes (x ∷ xs) (y ∷ ys) zero h k = refl
get_or-xor_bytes (x ∷ xs) (y ∷ ys) (suc j) h k = get_or-xor_bytes xs ys j (omega arith) (omega arith)

pub xor_twice : (xs ks : List ℕ) → all_bytes xs ≡ true → length xs ≤ length ks → xor_bytes (xor_bytes xs ks) ks ≡ xs
unfolding xor_bytes all_bytes
xor_twice [] ks b h = refl
xor_twice (x ∷ xs) [] b h = absurd (omega arith)
xor_twice (x ∷ xs) (k ∷ ks) b h =
    let p = and_parts (ltb x 256) (all_bytes xs) b in
    ap₂ (λ y ys. y ∷ ys) (bits_xor_twice 8 x k (ltb-true x 256 p.0)) (xor_twice xs ks p.1 (omega arith))
