-- The product, step by step. `product_steps` is opened only at an open count, since at 128 it would unroll.
use Rattle.std.proofs.Common.{◌≡◌, ℕ, zero, suc, ◌+◌, ◌-◌, ◌/◌, ◌%◌, ◌<◌, eqb, sym, refl, ap, ◌∙◌, ap₂, arith}
use Rattle.octets.specs.Bits.{pick, bits_xor, pow2}
use Rattle.ghash.specs.Field.{product_steps}
use Rattle.ghash.specs.Steps.{times_x}

pub product_steps_done : (x v z : ℕ) → product_steps zero x v z ≡ z
unfolding product_steps
product_steps_done x v z = refl

pub product_steps_step : (n x v z : ℕ) → product_steps (suc n) x v z ≡ product_steps n x (times_x v) (pick (eqb (x / pow2 n % 2) 1) (bits_xor 128 z v) z)
unfolding product_steps times_x
product_steps_step n x v z = refl

pub product_turn : (i x v z w y bit r : ℕ) → i < 128 → bit ≡ x / pow2 (127 - i) % 2 → y ≡ pick (eqb bit 1) (bits_xor 128 z v) z → w ≡ times_x v
    → product_steps (128 - i) x v z ≡ r → product_steps (128 - (i + 1)) x w y ≡ r
product_turn i x v z w y bit r hi hb hy hw inv =
    let e : 128 - (i + 1) ≡ 127 - i = omega arith in
    let f : suc (127 - i) ≡ 128 - i = omega arith in
    ap (λ n. product_steps n x w y) e
    ∙ (ap₂ (λ a b. product_steps (127 - i) x a b) hw (hy ∙ ap (λ k. pick (eqb k 1) (bits_xor 128 z v) z) hb)
    ∙ (sym (product_steps_step (127 - i) x v z)
    ∙ (ap (λ n. product_steps n x v z) f ∙ inv)))

pub product_end : (n x v z r : ℕ) → n ≡ 0 → product_steps n x v z ≡ r → z ≡ r
product_end n x v z r e inv = sym (product_steps_done x v z) ∙ (ap (λ k. product_steps k x v z) (sym e) ∙ inv)
