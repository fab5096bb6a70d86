-- The bit operations of the definitions are the library's, at every width; rotations and shifts of words.
use Rattle.std.proofs.Common.{◌≡◌, ℕ, zero, suc, ◌+◌, ◌*◌, ◌/◌, ◌%◌, ◌^◌, ◌<◌, min, Bool, true, false, ◌&&◌, eqb, sym, refl, ap, ◌∙◌, subst, ap₂, le_of_suc-le-suc, not-suc-le-zero, add-zero, mod-lt, zero-lt-suc, mul_comm, add_comm, pow-suc, arith, shr_lt}
use native.Mathlib.Nat.{mul-mod_left}
use lib.Arith.{lt-one}
use lib.Bits.{bit_and, bit_or, bit_xor, and_step, xor_step, or_shifted_r, xor_lt, differ}
use lib.Pow.{mod-pow-add, shl-shr}
use Rattle.octets.specs.Bits.{pick, bits_and, bits_xor, pow2}

-- a choice whose test is known
pub pick_true : {A : Type 0} (b : Bool) (x y : A) → b ≡ true → pick b x y ≡ x
unfolding pick
pick_true b x y e = ap (λ c. pick c x y) e

pub pick_false : {A : Type 0} (b : Bool) (x y : A) → b ≡ false → pick b x y ≡ y
unfolding pick
pick_false b x y e = ap (λ c. pick c x y) e

pub pow2_is : (n : ℕ) → pow2 n ≡ 2 ^ n
unfolding pow2
pow2_is zero = refl
pow2_is (suc n) = ap (λ (x : ℕ). 2 * x) (pow2_is n) ∙ mul_comm 2 (2 ^ n) ∙ sym (pow-suc 2 n)

half_lt : {a : ℕ} (n : ℕ) → a < 2 ^ suc n → a / 2 < 2 ^ n
half_lt {a} n h = let g : a < 2 ^ n * 2 = subst (λ (x : ℕ). a < x) (pow-suc 2 n) h in omega arith

and_digit : (x y : ℕ) → x < 2 → y < 2 → pick (eqb x 1 && eqb y 1) 1 0 ≡ min x y
unfolding pick
and_digit zero zero hx hy = refl
and_digit zero (suc zero) hx hy = refl
and_digit (suc zero) zero hx hy = refl
and_digit (suc zero) (suc zero) hx hy = refl
and_digit zero (suc (suc y)) hx hy = absurd (not-suc-le-zero (le_of_suc-le-suc (le_of_suc-le-suc hy)))
and_digit (suc zero) (suc (suc y)) hx hy = absurd (not-suc-le-zero (le_of_suc-le-suc (le_of_suc-le-suc hy)))
and_digit (suc (suc x)) y hx hy = absurd (not-suc-le-zero (le_of_suc-le-suc (le_of_suc-le-suc hx)))

xor_digit : (x y : ℕ) → x < 2 → y < 2 → pick (eqb x y) 0 1 ≡ differ x y
unfolding pick
xor_digit zero zero hx hy = refl
xor_digit zero (suc zero) hx hy = refl
xor_digit (suc zero) zero hx hy = refl
xor_digit (suc zero) (suc zero) hx hy = refl
xor_digit zero (suc (suc y)) hx hy = absurd (not-suc-le-zero (le_of_suc-le-suc (le_of_suc-le-suc hy)))
xor_digit (suc zero) (suc (suc y)) hx hy = absurd (not-suc-le-zero (le_of_suc-le-suc (le_of_suc-le-suc hy)))
xor_digit (suc (suc x)) y hx hy = absurd (not-suc-le-zero (le_of_suc-le-suc (le_of_suc-le-suc hx)))

pub bits_and_is : (n a b : ℕ) → a < 2 ^ n → b < 2 ^ n → bits_and n a b ≡ bit_and a b
unfolding bits_and
bits_and_is zero a b ha hb = sym (ap (λ (x : ℕ). bit_and x b) (lt-one ha))
bits_and_is (suc n) a b ha hb =
    ap₂ (λ (x y : ℕ). x + 2 * y) (and_digit (a % 2) (b % 2) (mod-lt a (zero-lt-suc 1)) (mod-lt b (zero-lt-suc 1))) (bits_and_is n (a / 2) (b / 2) (half_lt n ha) (half_lt n hb))
    ∙ (let s : bit_and a b ≡ bit_and (a / 2) (b / 2) * 2 + min (a % 2) (b % 2) = and_step a b in omega arith)

pub bits_xor_is : (n a b : ℕ) → a < 2 ^ n → b < 2 ^ n → bits_xor n a b ≡ bit_xor a b
unfolding bits_xor
bits_xor_is zero a b ha hb = sym (ap₂ bit_xor (lt-one ha) (lt-one hb))
bits_xor_is (suc n) a b ha hb =
    ap₂ (λ (x y : ℕ). x + 2 * y) (xor_digit (a % 2) (b % 2) (mod-lt a (zero-lt-suc 1)) (mod-lt b (zero-lt-suc 1))) (bits_xor_is n (a / 2) (b / 2) (half_lt n ha) (half_lt n hb))
    ∙ (let s : bit_xor a b ≡ bit_xor (a / 2) (b / 2) * 2 + differ (a % 2) (b % 2) = xor_step a b in omega arith)

-- what an exclusive or of n bits gives has n bits, whatever was put in
digit_lt : (b : Bool) → pick b 0 1 < 2
unfolding pick
digit_lt true = omega arith
digit_lt false = omega arith

pub bits_xor_lt : (n a b : ℕ) → bits_xor n a b < 2 ^ n
unfolding bits_xor
bits_xor_lt zero a b = omega arith
bits_xor_lt (suc n) a b =
    let d : pick (eqb (a % 2) (b % 2)) 0 1 < 2 = digit_lt (eqb (a % 2) (b % 2)) in
    let h : bits_xor n (a / 2) (b / 2) < 2 ^ n = bits_xor_lt n (a / 2) (b / 2) in
    omega (arith, pow-suc 2 n)

-- a rotation to the right at a width of j + n bits: the n low bits go to the top
pub rotated : (j n a : ℕ) → a < 2 ^ (j + n) → bit_or (a / 2 ^ n) ((a * 2 ^ j) % 2 ^ (n + j)) ≡ a / pow2 n + (a % pow2 n) * pow2 j
rotated j n a h =
    ap (λ (x : ℕ). bit_or (a / 2 ^ n) x)
    (mod-pow-add (a * 2 ^ j) n j
    ∙ ap₂ (λ (x y : ℕ). x % 2 ^ n * 2 ^ j + y) (shl-shr a j) (mul-mod_left a (2 ^ j)) ∙ add-zero (a % 2 ^ n * 2 ^ j))
    ∙ or_shifted_r (a % 2 ^ n) j (a / 2 ^ n) (shr_lt j n h)
    ∙ add_comm (a % 2 ^ n * 2 ^ j) (a / 2 ^ n)
    ∙ sym (ap₂ (λ (x y : ℕ). a / x + a % x * y) (pow2_is n) (pow2_is j))

pub shifted : (n a : ℕ) → a / 2 ^ n ≡ a / pow2 n
shifted n a = sym (ap (λ (x : ℕ). a / x) (pow2_is n))

-- the same at any width w, from the code's operators to the definitions
pub xor2 : (w : ℕ) {a b x y : ℕ} → a ≡ x → b ≡ y → a < 2 ^ w → b < 2 ^ w → bit_xor a b ≡ bits_xor w x y
xor2 w {a} {b} p q ha hb = sym (bits_xor_is w a b ha hb) ∙ ap₂ (λ (m n : ℕ). bits_xor w m n) p q

pub xor3 : (w : ℕ) {a b c x y z : ℕ} → a ≡ x → b ≡ y → c ≡ z → a < 2 ^ w → b < 2 ^ w → c < 2 ^ w → bit_xor (bit_xor a b) c ≡ bits_xor w (bits_xor w x y) z
xor3 w {a} {b} p q r ha hb hc = xor2 w (xor2 w p q ha hb) r (xor_lt w a b ha hb) hc

pub and2 : (w : ℕ) (a b : ℕ) → a < 2 ^ w → b < 2 ^ w → bit_and a b ≡ bits_and w a b
and2 w a b ha hb = sym (bits_and_is w a b ha hb)

-- the same mask twice
abbrev apart : ℕ → ℕ → ℕ
apart x y = pick (eqb x y) 0 1

pick_bit : (b : Bool) → pick b 0 1 < 2
unfolding pick
pick_bit true = omega arith
pick_bit false = omega arith

apart_lt : (x y : ℕ) → apart x y < 2
apart_lt x y = pick_bit (eqb x y)

apart_twice : (x y : ℕ) → x < 2 → y < 2 → apart (apart x y) y ≡ x
unfolding pick
apart_twice zero zero hx hy = refl
apart_twice zero (suc zero) hx hy = refl
apart_twice (suc zero) zero hx hy = refl
apart_twice (suc zero) (suc zero) hx hy = refl
apart_twice zero (suc (suc y)) hx hy = omega arith
apart_twice (suc zero) (suc (suc y)) hx hy = omega arith
apart_twice (suc (suc x)) y hx hy = omega arith

pub bits_xor_twice : (n a k : ℕ) → a < 2 ^ n → bits_xor n (bits_xor n a k) k ≡ a
unfolding bits_xor
bits_xor_twice zero a k h = omega arith
bits_xor_twice (suc n) a k h =
    let d : ℕ = apart (a % 2) (k % 2) in
    let r : ℕ = bits_xor n (a / 2) (k / 2) in
    let hd : d < 2 = apart_lt (a % 2) (k % 2) in
    let hr : a / 2 < 2 ^ n = omega (arith, pow-suc 2 n) in
    let e : (d + 2 * r) % 2 ≡ d = omega arith in
    let f : (d + 2 * r) / 2 ≡ r = omega arith in
    let g : apart d (k % 2) ≡ a % 2 = apart_twice (a % 2) (k % 2) (omega arith) (omega arith) in
    let i : bits_xor n r (k / 2) ≡ a / 2 = bits_xor_twice n (a / 2) (k / 2) hr in
    ap₂ (λ x y. apart x (k % 2) + 2 * bits_xor n y (k / 2)) e f ∙ (ap₂ (λ x y. x + 2 * y) g i ∙ omega arith)
