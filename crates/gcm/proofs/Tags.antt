-- The tag's parts: the block of lengths, GHASH of additional data, ciphertext and lengths one after the other, and the sum with a block.
use Rattle.std.proofs.Common.{◌≡◌, ℕ, zero, suc, ◌+◌, ◌-◌, ◌*◌, ◌/◌, ◌%◌, ◌^◌, ◌<◌, true, List, [], ◌∷◌, ◌++◌, length, sym, refl, ap, ◌∙◌, ap₂, mul_comm, arith, length-append, take_all, drop_at}
use lib.Bits.{bit_xor, xor_mod, xor_shr}
use lib.ListN.{length-replicate}
use Rattle.octets.specs.Bits.{bits_xor}
use Rattle.octets.specs.Bytes.{take, drop, repeat, xor_bytes, to_bytes, number, of_bytes, all_bytes}
use Rattle.octets.proofs.Bits.{bits_xor_is}
use Rattle.octets.proofs.Lists.{take_is, drop_is, repeat_is}
use Rattle.octets.proofs.Numbers.{number_append, number_shift, length-to_bytes, of_to_bytes_mod, to_of_bytes}
use Rattle.ghash.specs.Field.{product}
use Rattle.ghash.specs.Ghash.{ghash, zero_padded}
use Rattle.ghash.proofs.Blocks.{ghash_done, ghash_step, ghash_front, ghash_parts}

-- the block of lengths
pub lengths_block : (a b : ℕ) → a * 8 % 2 ^ 64 * 2 ^ 64 + b * 8 % 2 ^ 64 ≡ of_bytes (to_bytes 8 (8 * a) ++ to_bytes 8 (8 * b))
lengths_block a b =
    let p : of_bytes (to_bytes 8 (8 * a)) ≡ a * 8 % 2 ^ 64 = of_to_bytes_mod 8 (8 * a) ∙ ap (λ k. k % 2 ^ 64) (mul_comm 8 a) in
    let q : of_bytes (to_bytes 8 (8 * b)) ≡ b * 8 % 2 ^ 64 = of_to_bytes_mod 8 (8 * b) ∙ ap (λ k. k % 2 ^ 64) (mul_comm 8 b) in
    sym
    (number_append 0 (to_bytes 8 (8 * a)) (to_bytes 8 (8 * b))
    ∙ (number_shift (number 0 (to_bytes 8 (8 * a))) (to_bytes 8 (8 * b))
    ∙ (ap (λ k. number 0 (to_bytes 8 (8 * a)) * 256 ^ k + number 0 (to_bytes 8 (8 * b))) (length-to_bytes 8 (8 * b)) ∙ ap₂ (λ k l. k * 2 ^ 64 + l) p q)))

-- one text after another
ghash-append : (m n h a : ℕ) (xs ys : List ℕ) → length xs ≡ 16 * m → ghash (m + n) h a (xs ++ ys) ≡ ghash n h (ghash m h a xs) ys
ghash-append m n h a xs ys l =
    ghash_parts m n h a (xs ++ ys)
    ∙ ap₂ (λ k zs. ghash n h k zs) (ghash_front m h a xs ys (omega arith)) (drop_is (16 * m) (xs ++ ys) ∙ drop_at xs ys (16 * m) l)

length_block : (s : List ℕ) → length (zero_padded s) % 16 ≡ 0
length_block s =
    let l : length (repeat ((16 - length s % 16) % 16) 0) ≡ (16 - length s % 16) % 16 = ap length (repeat_is ((16 - length s % 16) % 16) 0) ∙ length-replicate ((16 - length s % 16) % 16) 0 in
    omega (arith, length-append s (repeat ((16 - length s % 16) % 16) 0))

pub three_parts : (h : ℕ) (a c l : List ℕ) → length l ≡ 16
    → product (bits_xor 128 (ghash (length (zero_padded c) / 16) h (ghash (length (zero_padded a) / 16) h 0 (zero_padded a)) (zero_padded c)) (of_bytes l)) h
    ≡ ghash (length (zero_padded a ++ (zero_padded c ++ l)) / 16) h 0 (zero_padded a ++ (zero_padded c ++ l))
three_parts h a c l hl =
    let p : List ℕ = zero_padded a in
    let q : List ℕ = zero_padded c in
    let m : ℕ = length p / 16 in
    let n : ℕ = length q / 16 in
    let lp : length p ≡ 16 * m = omega (arith, length_block a) in
    let lq : length q ≡ 16 * n = omega (arith, length_block c) in
    let lm : length (p ++ (q ++ l)) / 16 ≡ m + (n + 1) = omega (arith, length-append p (q ++ l), length-append q l) in
    let z : ℕ = ghash n h (ghash m h 0 p) q in
    sym
    (ap (λ k. ghash k h 0 (p ++ (q ++ l))) lm
    ∙ (ghash-append m (n + 1) h 0 p (q ++ l) lp
    ∙ (ghash-append n 1 h (ghash m h 0 p) q l lq
    ∙ (ghash_step 0 h z l
    ∙ (ghash_done h (product (bits_xor 128 z (of_bytes (take 16 l))) h) (drop 16 l) ∙ ap (λ ys. product (bits_xor 128 z (of_bytes ys)) h) (take_is 16 l ∙ take_all 16 l (omega arith)))))))

-- what is written of two numbers under exclusive or
xor_bytes-push : (xs ys : List ℕ) (x y : ℕ) → length xs ≡ length ys → xor_bytes (xs ++ (x ∷ [])) (ys ++ (y ∷ [])) ≡ xor_bytes xs ys ++ (bits_xor 8 x y ∷ [])
unfolding xor_bytes
xor_bytes-push [] [] x y h = refl
xor_bytes-push [] (v ∷ ys) x y h = absurd (omega arith)
xor_bytes-push (u ∷ xs) [] x y h = absurd (omega arith)
xor_bytes-push (u ∷ xs) (v ∷ ys) x y h = ap (λ zs. bits_xor 8 u v ∷ zs) (xor_bytes-push xs ys x y (omega arith))

to_bytes-xor : (k a b : ℕ) → to_bytes k (bit_xor a b) ≡ xor_bytes (to_bytes k a) (to_bytes k b)
unfolding to_bytes xor_bytes
to_bytes-xor zero a b = refl
to_bytes-xor (suc k) a b =
    let low : bit_xor a b % 256 ≡ bits_xor 8 (a % 256) (b % 256) = xor_mod a b 8 ∙ sym (bits_xor_is 8 (a % 256) (b % 256) (omega arith) (omega arith)) in
    ap₂ (λ n r. to_bytes k n ++ (r ∷ [])) (xor_shr a b 8) low
    ∙ (ap (λ zs. zs ++ (bits_xor 8 (a % 256) (b % 256) ∷ [])) (to_bytes-xor k (a / 256) (b / 256))
    ∙ sym (xor_bytes-push (to_bytes k (a / 256)) (to_bytes k (b / 256)) (a % 256) (b % 256) (length-to_bytes k (a / 256) ∙ sym (length-to_bytes k (b / 256)))))

pub tag_bytes : (a b : ℕ) (bs : List ℕ) → a < 2 ^ 128 → b < 2 ^ 128 → length bs ≡ 16 → all_bytes bs ≡ true → b ≡ of_bytes bs → to_bytes 16 (bits_xor 128 a b) ≡ xor_bytes (to_bytes 16 a) bs
tag_bytes a b bs ha hb l h e =
    ap (λ n. to_bytes 16 n) (bits_xor_is 128 a b ha hb) ∙ (to_bytes-xor 16 a b ∙ ap (λ ys. xor_bytes (to_bytes 16 a) ys) (ap (λ n. to_bytes 16 n) e ∙ to_of_bytes 16 bs l h))
