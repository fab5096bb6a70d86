-- The product by runs of the first factor's bits, for tables.
use Rattle.std.proofs.Common.{◌≡◌, ℕ, zero, suc, ◌+◌, ◌*◌, ◌/◌, ◌%◌, ◌^◌, ◌<◌, eqb, sym, refl, ap, ◌∙◌, ap₂, add_comm, arith, shr-shr}
use lib.Pow.{field, mod-mod-pow}
use Rattle.octets.specs.Bits.{pick, bits_xor}
use Rattle.ghash.specs.Field.{product_steps}
use Rattle.ghash.specs.Steps.{times_x, times_power}
use Rattle.octets.proofs.Bits.{pow2_is}
use Rattle.ghash.proofs.Steps.{product_steps_done, product_steps_step}
use Rattle.ghash.proofs.Linear.{bit}

-- a step, over a bit that is known
abbrev plus_if : ℕ → ℕ → ℕ → ℕ
plus_if p z v = pick (eqb p 1) (bits_xor 128 z v) z

pub product_steps_bit : (n x v z p : ℕ) → bit x n ≡ p → product_steps (suc n) x v z ≡ product_steps n x (times_x v) (plus_if p z v)
product_steps_bit n x v z p e = product_steps_step n x v z ∙ ap (λ k. product_steps n x (times_x v) (plus_if k z v)) (ap (λ k. x / k % 2) (pow2_is n) ∙ e)

-- the high bits first, then the low ones
pub product_steps_split : (m n x v z : ℕ) → product_steps (m + n) x v z ≡ product_steps n x (times_power m v) (product_steps m (x / 2 ^ n) v z)
unfolding times_power
product_steps_split zero n x v z =
    let e : 0 + n ≡ n = omega arith in
    ap (λ k. product_steps k x v z) e ∙ ap (λ k. product_steps n x v k) (sym (product_steps_done (x / 2 ^ n) v z))
product_steps_split (suc m) n x v z =
    let e : suc m + n ≡ suc (m + n) = omega arith in
    let b : bit (x / 2 ^ n) m ≡ bit x (m + n) = ap (λ k. k % 2) (shr-shr x n m ∙ ap (λ k. x / 2 ^ k) (add_comm n m)) in
    ap (λ k. product_steps k x v z) e
    ∙ (product_steps_bit (m + n) x v z (bit x (m + n)) refl
    ∙ (product_steps_split m n x (times_x v) (plus_if (bit x (m + n)) z v)
    ∙ ap (λ k. product_steps n x (times_power m (times_x v)) k) (sym (product_steps_bit m (x / 2 ^ n) v z (bit x (m + n)) b))))

-- only the low bits count
pub bit_of_low : (x j n : ℕ) → bit (x % 2 ^ (suc j + n)) n ≡ bit x n
bit_of_low x j n =
    let e : suc j ≡ j + 1 = omega arith in
    ap (λ k. k % 2) (field x (suc j) n ∙ ap (λ k. x / 2 ^ n % 2 ^ k) e) ∙ mod-mod-pow (x / 2 ^ n) j 1

pub product_steps_low : (n j x v z : ℕ) → product_steps n (x % 2 ^ (j + n)) v z ≡ product_steps n x v z
product_steps_low zero j x v z = product_steps_done (x % 2 ^ (j + 0)) v z ∙ sym (product_steps_done x v z)
product_steps_low (suc n) j x v z =
    let e : j + suc n ≡ suc j + n = omega arith in
    ap (λ k. product_steps (suc n) (x % 2 ^ k) v z) e
    ∙ (product_steps_bit n (x % 2 ^ (suc j + n)) v z (bit x n) (bit_of_low x j n)
    ∙ (product_steps_low n (suc j) x (times_x v) (plus_if (bit x n) z v) ∙ sym (product_steps_bit n x v z (bit x n) refl)))

-- times a power of x
pub times_power_none : (v : ℕ) → times_power 0 v ≡ v
unfolding times_power
times_power_none v = refl

pub times_power_more : (n v : ℕ) → times_x (times_power n v) ≡ times_power (n + 1) v
unfolding times_power
times_power_more zero v = refl
times_power_more (suc n) v =
    let e : suc (n + 1) ≡ suc n + 1 = omega arith in
    times_power_more n (times_x v) ∙ ap (λ k. times_power k v) e

pub times_power-times_power : (m n v : ℕ) → times_power m (times_power n v) ≡ times_power (n + m) v
unfolding times_power
times_power-times_power m zero v =
    let e : m ≡ 0 + m = omega arith in
    ap (λ k. times_power k v) e
times_power-times_power m (suc n) v =
    let e : suc (n + m) ≡ suc n + m = omega arith in
    times_power-times_power m n (times_x v) ∙ ap (λ k. times_power k v) e

-- four words of 32 bits, the high one first
pub product_by_words : (hi lo h : ℕ) → hi < 2 ^ 64 → lo < 2 ^ 64
    → product_steps 32 (lo % 2 ^ 32) (times_power 96 h) (product_steps 32 (lo / 2 ^ 32) (times_power 64 h) (product_steps 32 (hi % 2 ^ 32) (times_power 32 h) (product_steps 32 (hi / 2 ^ 32) (times_power 0 h) 0)))
    ≡ product_steps 128 (hi * 2 ^ 64 + lo) h 0
product_by_words hi lo h hh hl =
    let x : ℕ = hi * 2 ^ 64 + lo in
    let ea : x / 2 ^ 96 ≡ hi / 2 ^ 32 = omega arith in
    let eb : x / 2 ^ 64 ≡ hi = omega arith in
    let ec : x / 2 ^ 32 ≡ hi * 2 ^ 32 + lo / 2 ^ 32 = omega arith in
    let fc : (hi * 2 ^ 32 + lo / 2 ^ 32) % 2 ^ 32 ≡ lo / 2 ^ 32 = omega arith in
    let fd : x % 2 ^ 32 ≡ lo % 2 ^ 32 = omega arith in
    let za : ℕ = product_steps 32 (hi / 2 ^ 32) (times_power 0 h) 0 in
    let zb : ℕ = product_steps 32 (hi % 2 ^ 32) (times_power 32 h) za in
    let zc : ℕ = product_steps 32 (lo / 2 ^ 32) (times_power 64 h) zb in
    let pa : product_steps 128 x h 0 ≡ product_steps 96 x (times_power 32 h) za =
    product_steps_split 32 96 x h 0 ∙ ap₂ (λ k l. product_steps 96 x (times_power 32 h) (product_steps 32 k l 0)) ea (sym (times_power_none h)) in
    let pb : product_steps 96 x (times_power 32 h) za ≡ product_steps 64 x (times_power 64 h) zb =
    product_steps_split 32 64 x (times_power 32 h) za
    ∙ ap₂ (λ k l. product_steps 64 x k l) (times_power-times_power 32 32 h) (ap (λ k. product_steps 32 k (times_power 32 h) za) eb ∙ sym (product_steps_low 32 0 hi (times_power 32 h) za)) in
    let pc : product_steps 64 x (times_power 64 h) zb ≡ product_steps 32 x (times_power 96 h) zc =
    product_steps_split 32 32 x (times_power 64 h) zb
    ∙ ap₂ (λ k l. product_steps 32 x k l) (times_power-times_power 32 64 h)
    (ap (λ k. product_steps 32 k (times_power 64 h) zb) ec ∙ (sym (product_steps_low 32 0 (hi * 2 ^ 32 + lo / 2 ^ 32) (times_power 64 h) zb) ∙ ap (λ k. product_steps 32 k (times_power 64 h) zb) fc)) in
    let pd : product_steps 32 x (times_power 96 h) zc ≡ product_steps 32 (lo % 2 ^ 32) (times_power 96 h) zc =
    sym (product_steps_low 32 0 x (times_power 96 h) zc) ∙ ap (λ k. product_steps 32 k (times_power 96 h) zc) fd in
    sym (pa ∙ (pb ∙ (pc ∙ pd)))
