-- The product distributes over sums, has a one, commutes and is associative.
use Rattle.std.proofs.Common.{◌≡◌, ℕ, zero, suc, ◌+◌, ◌*◌, ◌/◌, ◌%◌, ◌^◌, ◌<◌, Bool, true, false, eqb, sym, refl, ap, ◌∙◌, ap₂, mod-lt, mod-eq_of_lt, pow-suc, arith, pow_pos}
use native.Mathlib.Nat.{mod-one}
use lib.Bits.{bit_xor, xor_zero_r, xor_assoc, xor_self, xor_shifted}
use lib.Pow.{pow-lt, mod-pow-add}
use Rattle.octets.specs.Bits.{pick, bits_xor}
use Rattle.ghash.specs.Field.{product_steps, product, reduction}
use Rattle.ghash.specs.Steps.{times_x}
use Rattle.octets.proofs.Bits.{bits_xor_is}
use Rattle.ghash.proofs.Steps.{product_steps_done}
use Rattle.ghash.proofs.Linear.{Fit, by_bit, by_bit_lt, bit, bit_lt, times_x_fit, times_x-xor, xor_fit, product_steps_more, product_steps_fit, linear_left, linear_right}

zero_fit : Fit 0
zero_fit = pow_pos 128

pub product_fit : (x y : ℕ) → Fit y → Fit (product x y)
product_fit x y hy = product_steps_fit 128 x y 0 hy zero_fit

pub product-xor_left : (a b h : ℕ) → Fit a → Fit b → Fit h → product (bits_xor 128 a b) h ≡ bits_xor 128 (product a h) (product b h)
product-xor_left a b h ha hb hh =
    ap (λ k. product k h) (bits_xor_is 128 a b ha hb)
    ∙ (linear_left 128 a b h 0 0 hh zero_fit zero_fit ∙ sym (bits_xor_is 128 (product a h) (product b h) (product_fit a h hh) (product_fit b h hh)))

pub product-xor_right : (x a b : ℕ) → Fit a → Fit b → product x (bits_xor 128 a b) ≡ bits_xor 128 (product x a) (product x b)
product-xor_right x a b ha hb =
    ap (λ k. product x k) (bits_xor_is 128 a b ha hb)
    ∙ (linear_right 128 x a b 0 0 ha hb zero_fit zero_fit ∙ sym (bits_xor_is 128 (product x a) (product x b) (product_fit x a ha) (product_fit x b hb)))

-- a linear function that commutes with the step commutes with every multiplication
pub record Passes (f : ℕ → ℕ) : Type 0 where
  pub fits : (a : ℕ) → Fit a → Fit (f a)
  pub sums : (a b : ℕ) → Fit a → Fit b → f (bit_xor a b) ≡ bit_xor (f a) (f b)
  pub steps : (a : ℕ) → Fit a → f (times_x a) ≡ times_x (f a)

at_zero : (f : ℕ → ℕ) → Passes f → f 0 ≡ 0
at_zero f p =
    let e : f 0 ≡ bit_xor (f 0) (f 0) = p.sums 0 0 zero_fit zero_fit in
    e ∙ xor_self (f 0)

pick_passes : (f : ℕ → ℕ) → Passes f → (b : Bool) (v : ℕ) → f (pick b v 0) ≡ pick b (f v) 0
unfolding pick
pick_passes f p true v = refl
pick_passes f p false v = at_zero f p

pub through : (f : ℕ → ℕ) → Passes f → (n x v z : ℕ) → Fit v → Fit z → product_steps n x (f v) (f z) ≡ f (product_steps n x v z)
through f p zero x v z hv hz = product_steps_done x (f v) (f z) ∙ ap f (sym (product_steps_done x v z))
through f p (suc n) x v z hv hz =
    let q : ℕ = by_bit (bit x n) v in
    let hq : Fit q = by_bit_lt (bit x n) v hv in
    product_steps_more n x (f v) (f z) (p.fits v hv) (p.fits z hz)
    ∙ (ap₂ (λ k m. product_steps n x k m) (sym (p.steps v hv))
    (ap (λ k. bit_xor (f z) k) (sym (pick_passes f p (eqb (bit x n) 1) v)) ∙ sym (p.sums z q hz hq))
    ∙ (through f p n x (times_x v) (bit_xor z q) (times_x_fit v hv) (xor_fit z q hz hq)
    ∙ ap f (sym (product_steps_more n x v z hv hz))))

times_x_passes : Passes times_x
times_x_passes = record { fits = times_x_fit; sums = times_x-xor; steps = λ a h. refl }

times_x_zero : times_x 0 ≡ 0
times_x_zero = at_zero times_x times_x_passes

product_passes : (y : ℕ) → Passes (λ v. product y v)
product_passes y =
    record {
      fits = λ a h. product_fit y a h;
      sums = λ a b ha hb. linear_right 128 y a b 0 0 ha hb zero_fit zero_fit;
      steps = λ a h. ap (λ k. product_steps 128 y (times_x a) k) (sym times_x_zero) ∙ through times_x times_x_passes 128 y a 0 h zero_fit;
    }

pub product_swap : (x y v : ℕ) → Fit v → product x (product y v) ≡ product y (product x v)
product_swap x y v hv = ap (λ k. product_steps 128 x (product y v) k) (sym (at_zero (λ k. product y k) (product_passes y))) ∙ through (λ k. product y k) (product_passes y) 128 x v 0 hv zero_fit

-- the one is the high bit
times_x_even : (m : ℕ) → suc m < 128 → times_x (2 ^ suc m) ≡ 2 ^ m
unfolding times_x pick
times_x_even m h =
    let e : 2 ^ suc m ≡ 2 ^ m * 2 = pow-suc 2 m in
    let d : 2 ^ suc m / 2 ≡ 2 ^ m = omega arith in
    let r : 2 ^ suc m % 2 ≡ 0 = omega arith in
    ap₂ (λ k l. pick (eqb k 1) (bits_xor 128 l reduction) l) r d

bit_mul : (p v : ℕ) → p < 2 → by_bit p v ≡ p * v
unfolding pick
bit_mul zero v h = omega arith
bit_mul (suc zero) v h = omega arith
bit_mul (suc (suc p)) v h = omega arith

bit_part : (x m : ℕ) → bit_xor (by_bit (bit x m) (2 ^ m)) (x % 2 ^ m) ≡ x % 2 ^ suc m
bit_part x m =
    let e : 1 + m ≡ suc m = omega arith in
    ap (λ k. bit_xor k (x % 2 ^ m)) (bit_mul (bit x m) (2 ^ m) (bit_lt x m))
    ∙ (xor_shifted (bit x m) m (x % 2 ^ m) (mod-lt x (pow_pos m)) ∙ (sym (mod-pow-add x 1 m) ∙ ap (λ k. x % 2 ^ k) e))

one_rest : (n x w : ℕ) → n < 128 → Fit w → product_steps n x (times_x (2 ^ n)) w ≡ bit_xor w (x % 2 ^ n)
one_rest zero x w hn hw = product_steps_done x (times_x 1) w ∙ (sym (xor_zero_r w) ∙ ap (λ k. bit_xor w k) (sym (mod-one x)))
one_rest (suc m) x w hn hw =
    let q : ℕ = by_bit (bit x m) (2 ^ m) in
    let hm : m < 128 = omega arith in
    let hv : Fit (2 ^ m) = pow-lt hm in
    let hq : Fit q = by_bit_lt (bit x m) (2 ^ m) hv in
    ap (λ k. product_steps (suc m) x k w) (times_x_even m hn)
    ∙ (product_steps_more m x (2 ^ m) w hv hw
    ∙ (one_rest m x (bit_xor w q) hm (xor_fit w q hw hq)
    ∙ (xor_assoc w q (x % 2 ^ m) ∙ ap (λ k. bit_xor w k) (bit_part x m))))

-- the one
abbrev pub one : ℕ
one = 2 ^ 127

pub product_one : (x : ℕ) → Fit x → product x one ≡ x
product_one x hx =
    let l : 127 < 128 = omega arith in
    let hv : Fit one = pow-lt l in
    let q : ℕ = by_bit (bit x 127) one in
    product_steps_more 127 x one 0 hv zero_fit ∙ (one_rest 127 x q l (by_bit_lt (bit x 127) one hv) ∙ (bit_part x 127 ∙ mod-eq_of_lt hx))

pub product_comm : (x y : ℕ) → Fit x → Fit y → product x y ≡ product y x
product_comm x y hx hy =
    let l : 127 < 128 = omega arith in
    ap (λ k. product x k) (sym (product_one y hy)) ∙ (product_swap x y one (pow-lt l) ∙ ap (λ k. product y k) (product_one x hx))

pub product_assoc : (x y z : ℕ) → Fit x → Fit y → Fit z → product (product x y) z ≡ product x (product y z)
product_assoc x y z hx hy hz =
    product_comm (product x y) z (product_fit x y hy) hz ∙ (product_swap z x y hy ∙ ap (λ k. product x k) (product_comm z y hz hy))
