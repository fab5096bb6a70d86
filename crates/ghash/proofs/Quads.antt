-- Four words of 32 bits, and the table's rows.
use Rattle.std.proofs.Common.{◌≡◌, ℕ, suc, ◌+◌, ◌-◌, ◌*◌, ◌/◌, ◌%◌, ◌^◌, ◌<◌, Bool, true, false, eqb, ◌≢◌, List, length, get_or, set, sym, refl, ap, ◌∙◌, ap₂, arith, get_or-set_other, get_or-set_same, below_more}
use lib.Bits.{bit_xor, bit_and, xor_zero_r, xor_block}
use Rattle.octets.specs.Bits.{pick, bits_xor}
use Rattle.ghash.specs.Field.{product_steps}
use Rattle.ghash.specs.Steps.{times_x, times_power}
use Rattle.ghash.specs.Rows.{four_words, row_value}
use Rattle.octets.proofs.Bits.{bits_xor_is}
use Rattle.ghash.proofs.Words.{low_bit, masked}
use Rattle.ghash.proofs.Runs.{product_steps_bit, times_power_more}

abbrev Word : ℕ → Type 0
Word a = a < 2 ^ 32

-- exclusive or, word by word
pub words_xor : (a b c d e f g h : ℕ) → Word a → Word b → Word c → Word d → Word e → Word f → Word g → Word h
    → four_words (bit_xor a e) (bit_xor b f) (bit_xor c g) (bit_xor d h) ≡ bits_xor 128 (four_words a b c d) (four_words e f g h)
words_xor a b c d e f g h ha hb hc hd he hf hg hh =
    sym
    (bits_xor_is 128 (four_words a b c d) (four_words e f g h) (omega arith) (omega arith)
    ∙ (xor_block 32 ((a * 2 ^ 32 + b) * 2 ^ 32 + c) ((e * 2 ^ 32 + f) * 2 ^ 32 + g) d h hd hh
    ∙ (ap (λ k. k * 2 ^ 32 + bit_xor d h) (xor_block 32 (a * 2 ^ 32 + b) (e * 2 ^ 32 + f) c g hc hg)
    ∙ ap (λ k. (k * 2 ^ 32 + bit_xor c g) * 2 ^ 32 + bit_xor d h) (xor_block 32 a e b f hb hf))))

chosen : (t : Bool) (a b c d e f g h : ℕ) → Word a → Word b → Word c → Word d → Word e → Word f → Word g → Word h
    → four_words (bit_xor a (pick t e 0)) (bit_xor b (pick t f 0)) (bit_xor c (pick t g 0)) (bit_xor d (pick t h 0))
    ≡ pick t (bits_xor 128 (four_words a b c d) (four_words e f g h)) (four_words a b c d)
unfolding pick
chosen true a b c d e f g h ha hb hc hd he hf hg hh = words_xor a b c d e f g h ha hb hc hd he hf hg hh
chosen false a b c d e f g h ha hb hc hd he hf hg hh =
    ap₂ (λ k l. four_words k l (bit_xor c 0) (bit_xor d 0)) (xor_zero_r a) (xor_zero_r b) ∙ ap₂ (λ k l. four_words a b k l) (xor_zero_r c) (xor_zero_r d)

pub words_add_bit : (bit m a b c d e f g h : ℕ) → bit < 2 → (m + bit) % 2 ^ 32 ≡ 0 → Word m → Word a → Word b → Word c → Word d → Word e → Word f → Word g → Word h
    → four_words (bit_xor a (bit_and m e)) (bit_xor b (bit_and m f)) (bit_xor c (bit_and m g)) (bit_xor d (bit_and m h))
    ≡ pick (eqb bit 1) (bits_xor 128 (four_words a b c d) (four_words e f g h)) (four_words a b c d)
words_add_bit bit m a b c d e f g h ht hm wm ha hb hc hd he hf hg hh =
    let t : Bool = eqb bit 1 in
    let keeps : (x : ℕ) → Word x → bit_and m x ≡ pick t x 0 = λ x hx. masked 32 bit m x ht hm wm hx in
    ap₂ (λ k l. four_words (bit_xor a k) (bit_xor b l) (bit_xor c (bit_and m g)) (bit_xor d (bit_and m h))) (keeps e he) (keeps f hf)
    ∙ (ap₂ (λ k l. four_words (bit_xor a (pick t e 0)) (bit_xor b (pick t f 0)) (bit_xor c k) (bit_xor d l)) (keeps g hg) (keeps h hh)
    ∙ chosen t a b c d e f g h ha hb hc hd he hf hg hh)

-- the same, of a mask that is given
pub words_add : (t : Bool) (m a b c d e f g h : ℕ) → m ≡ pick t 4294967295 0 → Word a → Word b → Word c → Word d → Word e → Word f → Word g → Word h
    → four_words (bit_xor a (bit_and m e)) (bit_xor b (bit_and m f)) (bit_xor c (bit_and m g)) (bit_xor d (bit_and m h))
    ≡ pick t (bits_xor 128 (four_words a b c d) (four_words e f g h)) (four_words a b c d)
unfolding pick
words_add true m a b c d e f g h hm ha hb hc hd he hf hg hh = let z : m ≡ 4294967295 = hm in words_add_bit 1 m a b c d e f g h (omega arith) (omega arith) (omega arith) ha hb hc hd he hf hg hh
words_add false m a b c d e f g h hm ha hb hc hd he hf hg hh = let z : m ≡ 0 = hm in words_add_bit 0 m a b c d e f g h (omega arith) (omega arith) (omega arith) ha hb hc hd he hf hg hh

-- a turn of a run
pub run_turn_bit : (j w from h z e y r : ℕ) → j < 32 → e ≡ times_power (from + j) h → y ≡ pick (eqb (bit_and (w / 2 ^ (31 - j)) 1) 1) (bits_xor 128 z e) z
    → product_steps (32 - j) w (times_power (from + j) h) z ≡ r → product_steps (32 - (j + 1)) w (times_power (from + (j + 1)) h) y ≡ r
run_turn_bit j w from h z e y r hj he hy inv =
    let v : ℕ = times_power (from + j) h in
    let m : 32 - (j + 1) ≡ 31 - j = omega arith in
    let s : suc (31 - j) ≡ 32 - j = omega arith in
    let t : from + (j + 1) ≡ from + j + 1 = omega arith in
    let p : ℕ = w / 2 ^ (31 - j) % 2 in
    ap₂ (λ k l. product_steps k w l y) m (ap (λ k. times_power k h) t ∙ sym (times_power_more (from + j) h))
    ∙ (ap (λ k. product_steps (31 - j) w (times_x v) k) (hy ∙ ap₂ (λ q k. pick (eqb q 1) (bits_xor 128 z k) z) (low_bit (w / 2 ^ (31 - j))) he)
    ∙ (sym (product_steps_bit (31 - j) w v z p refl) ∙ (ap (λ k. product_steps k w v z) s ∙ inv)))

pub run_turn : (j w from h z e y r : ℕ) → j < 32 → e ≡ times_power (from + j) h → y ≡ pick (eqb (w / 2 ^ (31 - j) % 2) 1) (bits_xor 128 z e) z
    → product_steps (32 - j) w (times_power (from + j) h) z ≡ r → product_steps (32 - (j + 1)) w (times_power (from + (j + 1)) h) y ≡ r
run_turn j w from h z e y r hj he hy inv = run_turn_bit j w from h z e y r hj he (hy ∙ ap (λ q. pick (eqb q 1) (bits_xor 128 z e) z) (sym (low_bit (w / 2 ^ (31 - j))))) inv

-- one row more
pub row_more : (a b c d : List ℕ) (i w x y z : ℕ) (F : ℕ → ℕ) → i < length a → i < length b → i < length c → i < length d
    → ((k : ℕ) → k < i → row_value a b c d k ≡ F k) → four_words w x y z ≡ F i
    → (k : ℕ) → k < i + 1 → row_value (set a i w) (set b i x) (set c i y) (set d i z) k ≡ F k
row_more a b c d i w x y z F ha hb hc hd below here =
    below_more (λ k. row_value (set a i w) (set b i x) (set c i y) (set d i z) k ≡ F k) i
    (λ k h.
    let ne : k ≢ i = omega arith in
    ap₂ (λ p q. four_words p q (get_or (set c i y) k 0) (get_or (set d i z) k 0)) (get_or-set_other a i k w 0 ne) (get_or-set_other b i k x 0 ne)
    ∙ (ap₂ (λ p q. four_words (get_or a k 0) (get_or b k 0) p q) (get_or-set_other c i k y 0 ne) (get_or-set_other d i k z 0 ne) ∙ below k h))
    (ap₂ (λ p q. four_words p q (get_or (set c i y) i 0) (get_or (set d i z) i 0)) (get_or-set_same a i w 0 ha) (get_or-set_same b i x 0 hb)
    ∙ (ap₂ (λ p q. four_words w x p q) (get_or-set_same c i y 0 hc) (get_or-set_same d i z 0 hd) ∙ here))
