-- The code's operations on two words are those of the field on the number that the words stand for.
use Rattle.std.proofs.Common.{◌≡◌, ℕ, zero, suc, ◌+◌, ◌-◌, ◌*◌, ◌/◌, ◌%◌, ◌^◌, ◌<◌, ◌≤◌, Bool, true, false, eqb, sym, refl, ap, ◌∙◌, ap₂, ⊎_elim, add-zero, mod-eq_of_lt, arith, shr-shr, mul_assoc, add_comm, pow_pos, pow-add}
use native.Mathlib.Nat.{add-mul-div_right}
use lib.Bits.{bit_xor, bit_and, bit_or, and_mask, and_comm, and_zero_r, or_shifted_r, xor_zero_r, xor_block}
use lib.Pow.{high}
use Rattle.std.proofs.lemmas.Bool.{cases_lt}
use Rattle.octets.specs.Bits.{pick, bits_xor, pow2}
use Rattle.ghash.specs.Field.{reduction}
use Rattle.ghash.specs.Steps.{times_x}
use Rattle.octets.proofs.Bits.{pow2_is, bits_xor_is}

pub xor_words : (h l k m : ℕ) → h < 2 ^ 64 → l < 2 ^ 64 → k < 2 ^ 64 → m < 2 ^ 64
    → bit_xor h k * 2 ^ 64 + bit_xor l m ≡ bits_xor 128 (h * 2 ^ 64 + l) (k * 2 ^ 64 + m)
xor_words h l k m hh hl hk hm = sym (bits_xor_is 128 (h * 2 ^ 64 + l) (k * 2 ^ 64 + m) (omega arith) (omega arith) ∙ xor_block 64 h k l m hl hm)

pub low_bit : (a : ℕ) → bit_and a 1 ≡ a % 2
low_bit a = and_mask a 1

-- a mask, as the negated bit is: all ones or none
all_ones : (t m : ℕ) → m < t → (m + 1) % t ≡ 0 → m ≡ t - 1
all_ones t m h e = ⊎_elim (λ l. absurd (omega (arith, sym (mod-eq_of_lt l) ∙ e))) (λ l. omega arith) (cases_lt (m + 1) t)

mask_is : (w bit mask : ℕ) → bit < 2 → mask < 2 ^ w → (mask + bit) % 2 ^ w ≡ 0 → mask ≡ pick (eqb bit 1) (2 ^ w - 1) 0
unfolding pick
mask_is w zero mask hb hm e = sym (mod-eq_of_lt hm) ∙ (ap (λ k. k % 2 ^ w) (sym (add-zero mask)) ∙ e)
mask_is w (suc zero) mask hb hm e = all_ones (2 ^ w) mask hm e
mask_is w (suc (suc b)) mask hb hm e = omega arith

kept : (w : ℕ) (b : Bool) (x : ℕ) → x < 2 ^ w → bit_and x (pick b (2 ^ w - 1) 0) ≡ pick b x 0
unfolding pick
kept w true x h = and_mask x w ∙ mod-eq_of_lt h
kept w false x h = and_zero_r x

pub masked : (w bit mask x : ℕ) → bit < 2 → (mask + bit) % 2 ^ w ≡ 0 → mask < 2 ^ w → x < 2 ^ w → bit_and mask x ≡ pick (eqb bit 1) x 0
masked w bit mask x hb e wm hx = and_comm mask x ∙ (ap (λ k. bit_and x k) (mask_is w bit mask hb wm e) ∙ kept w (eqb bit 1) x hx)

-- a bit of the low word, and of the high one
even_more : (a b : ℕ) → (a + b * 2) % 2 ≡ a % 2
even_more a b = omega arith

pub bit_low : (h l n : ℕ) → n < 64 → bit_and (l / 2 ^ n) 1 ≡ (h * 2 ^ 64 + l) / pow2 n % 2
bit_low h l n hn =
    let e : 63 - n + 1 + n ≡ 64 = omega arith in
    let p : 2 ^ 64 ≡ 2 ^ (63 - n) * 2 * 2 ^ n = ap (λ k. 2 ^ k) (sym e) ∙ (pow-add 2 (63 - n + 1) n ∙ ap (λ k. k * 2 ^ n) (pow-add 2 (63 - n) 1)) in
    let q : h * 2 ^ 64 ≡ h * 2 ^ (63 - n) * 2 * 2 ^ n =
    ap (λ k. h * k) p ∙ (sym (mul_assoc h (2 ^ (63 - n) * 2) (2 ^ n)) ∙ ap (λ k. k * 2 ^ n) (sym (mul_assoc h (2 ^ (63 - n)) 2))) in
    low_bit (l / 2 ^ n)
    ∙ (sym (even_more (l / 2 ^ n) (h * 2 ^ (63 - n)))
    ∙ ap (λ k. k % 2)
    (sym (add-mul-div_right l (h * 2 ^ (63 - n) * 2) (pow_pos n))
    ∙ ap₂ (λ a b. a / b) (add_comm l (h * 2 ^ (63 - n) * 2 * 2 ^ n) ∙ ap (λ k. k + l) (sym q)) (sym (pow2_is n))))

pub bit_high : (h l n : ℕ) → l < 2 ^ 64 → 64 ≤ n → bit_and (h / 2 ^ (n - 64)) 1 ≡ (h * 2 ^ 64 + l) / pow2 n % 2
bit_high h l n hl hn =
    let e : 64 + (n - 64) ≡ n = omega arith in
    low_bit (h / 2 ^ (n - 64))
    ∙ ap (λ k. k % 2)
    (ap (λ k. k / 2 ^ (n - 64)) (sym (high h 64 hl))
    ∙ (shr-shr (h * 2 ^ 64 + l) 64 (n - 64)
    ∙ ap (λ k. (h * 2 ^ 64 + l) / k) (ap (λ k. 2 ^ k) e ∙ sym (pow2_is n))))

-- one bit down
pub half_words : (h l : ℕ) → h < 2 ^ 64 → l < 2 ^ 64 → h / 2 * 2 ^ 64 + bit_or (l / 2) (h * 2 ^ 63 % 2 ^ 64) ≡ (h * 2 ^ 64 + l) / 2
half_words h l hh hl =
    let s : h * 2 ^ 63 % 2 ^ 64 ≡ h % 2 * 2 ^ 63 = omega arith in
    let o : bit_or (l / 2) (h * 2 ^ 63 % 2 ^ 64) ≡ h % 2 * 2 ^ 63 + l / 2 = ap (λ k. bit_or (l / 2) k) s ∙ or_shifted_r (h % 2) 63 (l / 2) (omega arith) in
    ap (λ k. h / 2 * 2 ^ 64 + k) o ∙ omega arith

-- a sum with what is masked
chosen : (t : Bool) (h l k m : ℕ) → h < 2 ^ 64 → l < 2 ^ 64 → k < 2 ^ 64 → m < 2 ^ 64
    → bits_xor 128 (h * 2 ^ 64 + l) (pick t k 0 * 2 ^ 64 + pick t m 0) ≡ pick t (bits_xor 128 (h * 2 ^ 64 + l) (k * 2 ^ 64 + m)) (h * 2 ^ 64 + l)
unfolding pick
chosen true h l k m hh hl hk hm = refl
chosen false h l k m hh hl hk hm = bits_xor_is 128 (h * 2 ^ 64 + l) 0 (omega arith) (omega arith) ∙ xor_zero_r (h * 2 ^ 64 + l)

pub words_add : (bit mask h l k m : ℕ) → bit < 2 → (mask + bit) % 2 ^ 64 ≡ 0 → mask < 2 ^ 64 → h < 2 ^ 64 → l < 2 ^ 64 → k < 2 ^ 64 → m < 2 ^ 64
    → bits_xor 128 (h * 2 ^ 64 + l) (bit_and mask k * 2 ^ 64 + bit_and mask m) ≡ pick (eqb bit 1) (bits_xor 128 (h * 2 ^ 64 + l) (k * 2 ^ 64 + m)) (h * 2 ^ 64 + l)
words_add bit mask h l k m hb e wm hh hl hk hm =
    let z : ℕ = h * 2 ^ 64 + l in
    ap₂ (λ x y. bits_xor 128 z (x * 2 ^ 64 + y)) (masked 64 bit mask k hb e wm hk) (masked 64 bit mask m hb e wm hm) ∙ chosen (eqb bit 1) h l k m hh hl hk hm

pub times_x_chosen : (h l r : ℕ) → h < 2 ^ 64 → l < 2 ^ 64
    → r ≡ pick (eqb (bit_and l 1) 1) (bits_xor 128 (h / 2 * 2 ^ 64 + bit_or (l / 2) (h * 2 ^ 63 % 2 ^ 64)) reduction) (h / 2 * 2 ^ 64 + bit_or (l / 2) (h * 2 ^ 63 % 2 ^ 64))
    → r ≡ times_x (h * 2 ^ 64 + l)
unfolding times_x
times_x_chosen h l r hh hl e =
    let p : bit_and l 1 ≡ (h * 2 ^ 64 + l) % 2 = omega (arith, low_bit l) in
    e ∙ ap₂ (λ x y. pick (eqb x 1) (bits_xor 128 y reduction) y) p (half_words h l hh hl)

-- the same, where the high word alone takes the reduction
times_x_if : (b : Bool) (h l : ℕ) → h < 2 ^ 64 → l < 2 ^ 64
    → bit_xor h (pick b 0xe100000000000000 0) * 2 ^ 64 + l ≡ pick b (bits_xor 128 (h * 2 ^ 64 + l) reduction) (h * 2 ^ 64 + l)
unfolding pick
times_x_if true h l hh hl =
    ap (λ k. bit_xor h 0xe100000000000000 * 2 ^ 64 + k) (sym (xor_zero_r l)) ∙ xor_words h l 0xe100000000000000 0 hh hl (omega arith) (omega arith)
times_x_if false h l hh hl = ap (λ k. k * 2 ^ 64 + l) (xor_zero_r h)

pub times_x_words : (h l : ℕ) → h < 2 ^ 64 → l < 2 ^ 64
    → bit_xor (h / 2) (pick (eqb (bit_and l 1) 1) 0xe100000000000000 0) * 2 ^ 64 + bit_or (l / 2) (h * 2 ^ 63 % 2 ^ 64) ≡ times_x (h * 2 ^ 64 + l)
times_x_words h l hh hl =
    let lower : ℕ = bit_or (l / 2) (h * 2 ^ 63 % 2 ^ 64) in
    let s : h * 2 ^ 63 % 2 ^ 64 ≡ h % 2 * 2 ^ 63 = omega arith in
    let o : lower ≡ h % 2 * 2 ^ 63 + l / 2 = ap (λ k. bit_or (l / 2) k) s ∙ or_shifted_r (h % 2) 63 (l / 2) (omega arith) in
    times_x_chosen h l _ hh hl (times_x_if (eqb (bit_and l 1) 1) (h / 2) lower (omega arith) (omega arith))
