-- The key schedule on words is the one on lists of four bytes.
use Rattle.std.proofs.Common.{◌≡◌, ℕ, zero, suc, ◌+◌, ◌-◌, ◌*◌, ◌/◌, ◌%◌, ◌<◌, ◌≤◌, Bool, eqb, ◌≢◌, List, [], ◌∷◌, ◌++◌, length, get_or, take as ltake, set, sym, refl, ap, ◌∙◌, ap₂, append_assoc, add-one, arith, lit<, eq-eqb, ne_eqb}
use lib.Bits.{bit_xor, bit_or, or_shifted, xor_zero_r}
use Rattle.std.proofs.lemmas.List.{take_more, get_or-set_same, get_or-set_other}
use Rattle.octets.specs.Bits.{pick}
use Rattle.octets.specs.Bytes.{nth, take, drop, xor_bytes}
use Rattle.aes256.specs.Aes.{sub_byte, sub_bytes, rot_word, rcon, word_at, expand_words, key_words, joined}
use Rattle.aes256.specs.Columns.{word, word_bytes, words_bytes, sub_word}
use Rattle.aes256.specs.Schedule.{next_of, words_upto}
use Rattle.aes256.proofs.WordBytes.{bytes_of_word, word_of_bytes, words_bytes-append, first_eight}
use Rattle.aes256.proofs.Mixing.{sub_lt, xtime_lt}
use Rattle.aes256.proofs.RoundBytes.{sub_bytes_is, sub_word_bytes}

rotl_8 : (a b c d : ℕ) → a < 256 → b < 256 → c < 256 → d < 256
    → bit_or ((word a b c d * 256) % 4294967296) (word a b c d / 16777216) ≡ word b c d a
rotl_8 a b c d p q r s =
    let lo : word a b c d / 16777216 ≡ a = omega arith in
    let hi : (word a b c d * 256) % 4294967296 ≡ (b * 65536 + (c * 256 + d)) * 256 = omega arith in
    let o : bit_or ((b * 65536 + (c * 256 + d)) * 256) a ≡ (b * 65536 + (c * 256 + d)) * 256 + a = or_shifted (b * 65536 + (c * 256 + d)) 8 a (omega arith) in
    ap₂ bit_or hi lo ∙ (o ∙ omega arith)

pub rotated_bytes : (p : ℕ) → p < 4294967296 → word_bytes (bit_or ((p * 256) % 4294967296) (p / 16777216)) ≡ rot_word (word_bytes p)
unfolding nth
rotated_bytes p h =
    let a : ℕ = p / 16777216 % 256 in let b : ℕ = p / 65536 % 256 in let c : ℕ = p / 256 % 256 in let d : ℕ = p % 256 in
    let ha : a < 256 = omega arith in let hb : b < 256 = omega arith in let hc : c < 256 = omega arith in let hd : d < 256 = omega arith in
    ap word_bytes (ap (λ (n : ℕ). bit_or ((n * 256) % 4294967296) (n / 16777216)) (word_of_bytes p h) ∙ rotl_8 a b c d ha hb hc hd)
    ∙ bytes_of_word b c d a hb hc hd ha

rcon_lt : (n : ℕ) → rcon n < 256
unfolding rcon
rcon_lt zero = lit< tt
rcon_lt (suc n) = xtime_lt (rcon n)

pub rcon_bytes : (n : ℕ) → word_bytes (word (rcon n) 0 0 0) ≡ rcon n ∷ (0 ∷ (0 ∷ (0 ∷ [])))
rcon_bytes n = bytes_of_word (rcon n) 0 0 0 (rcon_lt n) (lit< tt) (lit< tt) (lit< tt)

-- a word substituted, with a constant and without
pub sub_bytes_word : (t k : ℕ) → k < 4294967296 → word_bytes (bit_xor (sub_word t t t t) k) ≡ xor_bytes (sub_bytes (word_bytes t)) (word_bytes k)
sub_bytes_word t k h = sub_word_bytes t t t t k h ∙ ap (λ (x : List ℕ). xor_bytes x (word_bytes k)) (sym (sub_bytes_is (word_bytes t)))

pub sub_bytes_only : (t : ℕ) → word_bytes (bit_xor (sub_word t t t t) 0) ≡ sub_bytes (word_bytes t)
unfolding sub_word
sub_bytes_only t =
    ap word_bytes (xor_zero_r (sub_word t t t t))
    ∙ bytes_of_word (sub_byte (t / 16777216 % 256)) (sub_byte (t / 65536 % 256)) (sub_byte (t / 256 % 256)) (sub_byte (t % 256))
    (sub_lt (t / 16777216 % 256)) (sub_lt (t / 65536 % 256)) (sub_lt (t / 256 % 256)) (sub_lt (t % 256))
    ∙ sym (sub_bytes_is (word_bytes t))

-- the three cases of the next word
module _ (t old : List ℕ) (i : ℕ) where
  abbrev eighth : List ℕ
  eighth = xor_bytes (sub_bytes (rot_word t)) (rcon (i / 8 - 1) ∷ (0 ∷ (0 ∷ (0 ∷ []))))

  pub next_eighth : i % 8 ≡ 0 → xor_bytes old eighth ≡ next_of t old i
  unfolding next_of pick
  next_eighth e = ap (λ (b : Bool). xor_bytes old (pick b eighth (pick (eqb (i % 8) 4) (sub_bytes t) t))) (sym (eq-eqb (i % 8) 0 e))

  pub next_fourth : (i % 8 ≡ 0 → ⊥) → i % 8 ≡ 4 → xor_bytes old (sub_bytes t) ≡ next_of t old i
  unfolding next_of pick
  next_fourth f e = ap₂ (λ (b d : Bool). xor_bytes old (pick b eighth (pick d (sub_bytes t) t))) (sym (ne_eqb (i % 8) 0 f)) (sym (eq-eqb (i % 8) 4 e))

  pub next_other : (i % 8 ≡ 0 → ⊥) → (i % 8 ≡ 4 → ⊥) → xor_bytes old t ≡ next_of t old i
  unfolding next_of pick
  next_other f g = ap₂ (λ (b d : Bool). xor_bytes old (pick b eighth (pick d (sub_bytes t) t))) (sym (ne_eqb (i % 8) 0 f)) (sym (ne_eqb (i % 8) 4 g))

-- the words so far, after one more is written
upto_same : (w : List ℕ) (i v n : ℕ) → n ≤ i → words_upto (set w i v) n ≡ words_upto w n
unfolding words_upto
upto_same w i v zero h = refl
upto_same w i v (suc n) h =
    let ne : n ≢ i = omega arith in
    ap₂ (λ (x : ℕ) (t : List (List ℕ)). word_bytes x ∷ t) (get_or-set_other w i n v 0 ne) (upto_same w i v n (omega arith))

pub upto_set : (w : List ℕ) (i v : ℕ) → i < length w → words_upto (set w i v) (i + 1) ≡ word_bytes v ∷ words_upto w i
unfolding words_upto
upto_set w i v h =
    ap (words_upto (set w i v)) (add-one i)
    ∙ ap₂ (λ (x : ℕ) (t : List (List ℕ)). word_bytes x ∷ t) (get_or-set_same w i v 0 h) (upto_same w i v i (omega arith))

word_upto : (w : List ℕ) (n j : ℕ) → j < n → word_at (words_upto w n) j ≡ word_bytes (get_or w (n - (j + 1)) 0)
unfolding words_upto word_at
word_upto w zero j h = absurd (omega arith)
word_upto w (suc n) zero h = let e : n ≡ suc n - (0 + 1) = omega arith in ap (λ (k : ℕ). word_bytes (get_or w k 0)) e
word_upto w (suc n) (suc j) h =
    let e : n - (j + 1) ≡ suc n - (suc j + 1) = omega arith in word_upto w n j (omega arith) ∙ ap (λ (k : ℕ). word_bytes (get_or w k 0)) e

pub expand_more : (n : ℕ) (w : List ℕ) (i : ℕ) → 8 ≤ i
    → expand_words (suc n) i (words_upto w i) ≡ expand_words n (i + 1) (next_of (word_bytes (get_or w (i - 1) 0)) (word_bytes (get_or w (i - 8) 0)) i ∷ words_upto w i)
unfolding expand_words next_of
expand_more n w i h =
    ap₂ (λ (x y : List ℕ). expand_words n (suc i) (next_of x y i ∷ words_upto w i)) (word_upto w i 0 (omega arith)) (word_upto w i 7 (omega arith))
    ∙ ap (λ (m : ℕ). expand_words n m (next_of (word_bytes (get_or w (i - 1) 0)) (word_bytes (get_or w (i - 8) 0)) i ∷ words_upto w i)) (sym (add-one i))

-- the key's words, and all words, as bytes
pub key_words_are : (w : List ℕ) → 8 ≤ length w → key_words 8 (words_bytes (take 8 w)) [] ≡ words_upto w 8
unfolding key_words take drop words_bytes words_upto
key_words_are w h = ap (λ (v : List ℕ). key_words 8 (words_bytes (take 8 v)) []) (first_eight w h)

pub joined_upto : (w : List ℕ) (n : ℕ) (bs : List ℕ) → n ≤ length w → joined (words_upto w n) bs ≡ words_bytes (ltake n w) ++ bs
unfolding joined words_upto words_bytes
joined_upto w zero bs h = refl
joined_upto w (suc n) bs h =
    joined_upto w n (word_bytes (get_or w n 0) ++ bs) (omega arith)
    ∙ sym (append_assoc (words_bytes (ltake n w)) (word_bytes (get_or w n 0)) bs)
    ∙ ap (λ (t : List ℕ). t ++ bs) (sym (words_bytes-append (ltake n w) (get_or w n 0 ∷ [])) ∙ ap words_bytes (sym (take_more w n 0 (omega arith)) ∙ ap (λ (m : ℕ). ltake m w) (add-one n)))
