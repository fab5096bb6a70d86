-- The product is linear in each factor.
use Rattle.std.proofs.Common.{◌≡◌, ℕ, zero, suc, ◌/◌, ◌%◌, ◌^◌, ◌<◌, Bool, true, false, eqb, sym, refl, ap, ◌∙◌, subst, ap₂, arith, pow_pos}
use lib.Bits.{bit_xor, xor_shr, xor_mod, xor_lt, xor_zero_r, xor_assoc, xor_comm, xor_self}
use Rattle.octets.specs.Bits.{pick, bits_xor}
use Rattle.ghash.specs.Field.{product_steps, reduction}
use Rattle.ghash.specs.Steps.{times_x}
use Rattle.octets.proofs.Bits.{pow2_is, bits_xor_is}
use Rattle.ghash.proofs.Steps.{product_steps_done, product_steps_step}

-- fits 128 bits
abbrev pub Fit : ℕ → Type 0
Fit a = a < 2 ^ 128

xor_swap : (a b c d : ℕ) → bit_xor (bit_xor a b) (bit_xor c d) ≡ bit_xor (bit_xor a c) (bit_xor b d)
xor_swap a b c d =
    xor_assoc a b (bit_xor c d)
    ∙ (ap (λ k. bit_xor a k) (sym (xor_assoc b c d) ∙ (ap (λ k. bit_xor k d) (xor_comm b c) ∙ xor_assoc c b d)) ∙ sym (xor_assoc a c (bit_xor b d)))

-- a number times one bit
abbrev pub by_bit : ℕ → ℕ → ℕ
by_bit p v = pick (eqb p 1) v 0

pick_lt : (b : Bool) (v : ℕ) → Fit v → Fit (pick b v 0)
unfolding pick
pick_lt true v h = h
pick_lt false v h = pow_pos 128

pub by_bit_lt : (p v : ℕ) → Fit v → Fit (by_bit p v)
by_bit_lt p v h = pick_lt (eqb p 1) v h

pub by_bit_xor : (p q v : ℕ) → p < 2 → q < 2 → by_bit (bit_xor p q) v ≡ bit_xor (by_bit p v) (by_bit q v)
unfolding pick
by_bit_xor zero zero v hp hq = refl
by_bit_xor zero (suc zero) v hp hq = refl
by_bit_xor (suc zero) zero v hp hq = sym (xor_zero_r v)
by_bit_xor (suc zero) (suc zero) v hp hq = sym (xor_self v)
by_bit_xor zero (suc (suc q)) v hp hq = omega arith
by_bit_xor (suc zero) (suc (suc q)) v hp hq = omega arith
by_bit_xor (suc (suc p)) q v hp hq = omega arith

pick_split : (b : Bool) (v u : ℕ) → pick b (bit_xor v u) 0 ≡ bit_xor (pick b v 0) (pick b u 0)
unfolding pick
pick_split true v u = refl
pick_split false v u = refl

pub by_bit_split : (p v u : ℕ) → by_bit p (bit_xor v u) ≡ bit_xor (by_bit p v) (by_bit p u)
by_bit_split p v u = pick_split (eqb p 1) v u

pick-add : (b : Bool) (z v : ℕ) → Fit z → Fit v → pick b (bits_xor 128 z v) z ≡ bit_xor z (pick b v 0)
unfolding pick
pick-add true z v hz hv = bits_xor_is 128 z v hz hv
pick-add false z v hz hv = sym (xor_zero_r z)

-- bit n
abbrev pub bit : ℕ → ℕ → ℕ
bit x n = x / 2 ^ n % 2

pub bit_lt : (x n : ℕ) → bit x n < 2
bit_lt x n = omega arith

bit_of_xor : (x y n : ℕ) → bit (bit_xor x y) n ≡ bit_xor (bit x n) (bit y n)
bit_of_xor x y n = ap (λ k. k % 2) (xor_shr x y n) ∙ xor_mod (x / 2 ^ n) (y / 2 ^ n) 1

-- one step down
pub times_x_is : (v : ℕ) → Fit v → times_x v ≡ bit_xor (v / 2) (by_bit (v % 2) reduction)
unfolding times_x
times_x_is v h = pick-add (eqb (v % 2) 1) (v / 2) reduction (omega arith) (omega arith)

pub xor_fit : (a b : ℕ) → Fit a → Fit b → Fit (bit_xor a b)
xor_fit a b ha hb = xor_lt 128 a b ha hb

top_fit : Fit reduction
top_fit = omega arith

pub times_x_fit : (v : ℕ) → Fit v → Fit (times_x v)
times_x_fit v h = subst (λ k. Fit k) (sym (times_x_is v h)) (xor_fit (v / 2) (by_bit (v % 2) reduction) (omega arith) (by_bit_lt (v % 2) reduction top_fit))

pub times_x-xor : (a b : ℕ) → Fit a → Fit b → times_x (bit_xor a b) ≡ bit_xor (times_x a) (times_x b)
times_x-xor a b ha hb =
    times_x_is (bit_xor a b) (xor_fit a b ha hb)
    ∙ (ap₂ (λ k m. bit_xor k m) (xor_shr a b 1) (ap (λ k. by_bit k reduction) (xor_mod a b 1) ∙ by_bit_xor (a % 2) (b % 2) reduction (omega arith) (omega arith))
    ∙ (xor_swap (a / 2) (b / 2) (by_bit (a % 2) reduction) (by_bit (b % 2) reduction)
    ∙ ap₂ (λ k m. bit_xor k m) (sym (times_x_is a ha)) (sym (times_x_is b hb))))

-- a step of the multiplication, by exclusive or
pub product_steps_more : (n x v z : ℕ) → Fit v → Fit z → product_steps (suc n) x v z ≡ product_steps n x (times_x v) (bit_xor z (by_bit (bit x n) v))
product_steps_more n x v z hv hz =
    product_steps_step n x v z
    ∙ ap (λ k. product_steps n x (times_x v) k) (ap (λ k. pick (eqb (x / k % 2) 1) (bits_xor 128 z v) z) (pow2_is n) ∙ pick-add (eqb (bit x n) 1) z v hz hv)

pub product_steps_fit : (n x v z : ℕ) → Fit v → Fit z → Fit (product_steps n x v z)
product_steps_fit zero x v z hv hz = subst (λ k. Fit k) (sym (product_steps_done x v z)) hz
product_steps_fit (suc n) x v z hv hz =
    subst (λ k. Fit k) (sym (product_steps_more n x v z hv hz))
    (product_steps_fit n x (times_x v) (bit_xor z (by_bit (bit x n) v)) (times_x_fit v hv) (xor_fit z (by_bit (bit x n) v) hz (by_bit_lt (bit x n) v hv)))

-- linear in the first factor
pub linear_left : (n x y v z w : ℕ) → Fit v → Fit z → Fit w → product_steps n (bit_xor x y) v (bit_xor z w) ≡ bit_xor (product_steps n x v z) (product_steps n y v w)
linear_left zero x y v z w hv hz hw =
    product_steps_done (bit_xor x y) v (bit_xor z w) ∙ ap₂ (λ k m. bit_xor k m) (sym (product_steps_done x v z)) (sym (product_steps_done y v w))
linear_left (suc n) x y v z w hv hz hw =
    let p : ℕ = by_bit (bit x n) v in
    let q : ℕ = by_bit (bit y n) v in
    let hp : Fit p = by_bit_lt (bit x n) v hv in
    let hq : Fit q = by_bit_lt (bit y n) v hv in
    product_steps_more n (bit_xor x y) v (bit_xor z w) hv (xor_fit z w hz hw)
    ∙ (ap (λ k. product_steps n (bit_xor x y) (times_x v) k)
    (ap (λ k. bit_xor (bit_xor z w) k) (ap (λ k. by_bit k v) (bit_of_xor x y n) ∙ by_bit_xor (bit x n) (bit y n) v (bit_lt x n) (bit_lt y n))
    ∙ xor_swap z w p q)
    ∙ (linear_left n x y (times_x v) (bit_xor z p) (bit_xor w q) (times_x_fit v hv) (xor_fit z p hz hp) (xor_fit w q hw hq)
    ∙ ap₂ (λ k m. bit_xor k m) (sym (product_steps_more n x v z hv hz)) (sym (product_steps_more n y v w hv hw))))

-- and in the second
pub linear_right : (n x v u z w : ℕ) → Fit v → Fit u → Fit z → Fit w
    → product_steps n x (bit_xor v u) (bit_xor z w) ≡ bit_xor (product_steps n x v z) (product_steps n x u w)
linear_right zero x v u z w hv hu hz hw =
    product_steps_done x (bit_xor v u) (bit_xor z w) ∙ ap₂ (λ k m. bit_xor k m) (sym (product_steps_done x v z)) (sym (product_steps_done x u w))
linear_right (suc n) x v u z w hv hu hz hw =
    let p : ℕ = by_bit (bit x n) v in
    let q : ℕ = by_bit (bit x n) u in
    let hp : Fit p = by_bit_lt (bit x n) v hv in
    let hq : Fit q = by_bit_lt (bit x n) u hu in
    product_steps_more n x (bit_xor v u) (bit_xor z w) (xor_fit v u hv hu) (xor_fit z w hz hw)
    ∙ (ap₂ (λ k m. product_steps n x k m) (times_x-xor v u hv hu) (ap (λ k. bit_xor (bit_xor z w) k) (by_bit_split (bit x n) v u) ∙ xor_swap z w p q)
    ∙ (linear_right n x (times_x v) (times_x u) (bit_xor z p) (bit_xor w q) (times_x_fit v hv) (times_x_fit u hu) (xor_fit z p hz hp) (xor_fit w q hw hq)
    ∙ ap₂ (λ k m. bit_xor k m) (sym (product_steps_more n x v z hv hz)) (sym (product_steps_more n x u w hu hw))))
