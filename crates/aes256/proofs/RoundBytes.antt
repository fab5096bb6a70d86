-- A round on four words is a round on their sixteen bytes, and the rounds one after the other are the cipher.
use Rattle.std.proofs.Common.{◌≡◌, ℕ, suc, ◌+◌, ◌/◌, ◌%◌, ◌<◌, ◌≤◌, List, [], ◌∷◌, ◌++◌, map, length, get_or, drop as ldrop, sym, refl, ap, ◌∙◌, ap₂}
use lib.Bits.{bit_xor}
use Rattle.octets.specs.Bytes.{nth, drop, xor_bytes}
use Rattle.aes256.specs.Aes.{sub_byte, mix_byte, sub_bytes, shift_rows, mix_columns, cipher_rounds, aes}
use Rattle.aes256.specs.Columns.{word, word_bytes, words_bytes, mixed_word, sub_word, sub_mixed}
use Rattle.aes256.proofs.WordBytes.{xor-word_bytes, drop_four, with_four, all_four, all_sixteen}
use Rattle.aes256.proofs.Mixing.{sub_lt, mix_lt}

pub sub_bytes_is : (xs : List ℕ) → sub_bytes xs ≡ map sub_byte xs
unfolding sub_bytes
sub_bytes_is [] = refl
sub_bytes_is (x ∷ xs) = ap (λ (t : List ℕ). sub_byte x ∷ t) (sub_bytes_is xs)

-- a column and a word of the key, as bytes
pub sub_word_bytes : (a b c d k : ℕ) → k < 4294967296 → word_bytes (bit_xor (sub_word a b c d) k)
    ≡ xor_bytes (sub_byte (a / 16777216 % 256) ∷ (sub_byte (b / 65536 % 256) ∷ (sub_byte (c / 256 % 256) ∷ (sub_byte (d % 256) ∷ [])))) (word_bytes k)
unfolding sub_word
sub_word_bytes a b c d k h =
    xor-word_bytes (sub_byte (a / 16777216 % 256)) (sub_byte (b / 65536 % 256)) (sub_byte (c / 256 % 256)) (sub_byte (d % 256)) k
    (sub_lt (a / 16777216 % 256)) (sub_lt (b / 65536 % 256)) (sub_lt (c / 256 % 256)) (sub_lt (d % 256)) h

mixed_word_bytes : (a b c d k : ℕ) → k < 4294967296
    → word_bytes (bit_xor (mixed_word a b c d) k) ≡ xor_bytes (mix_byte a b c d ∷ (mix_byte b c d a ∷ (mix_byte c d a b ∷ (mix_byte d a b c ∷ [])))) (word_bytes k)
unfolding mixed_word
mixed_word_bytes a b c d k h =
    xor-word_bytes (mix_byte a b c d) (mix_byte b c d a) (mix_byte c d a b) (mix_byte d a b c) k
    (mix_lt a b c d) (mix_lt b c d a) (mix_lt c d a b) (mix_lt d a b c) h

sub_mixed_bytes : (a b c d k : ℕ) → k < 4294967296 → word_bytes (bit_xor (sub_mixed a b c d) k)
    ≡ xor_bytes (mix_byte (sub_byte (a / 16777216 % 256)) (sub_byte (b / 65536 % 256)) (sub_byte (c / 256 % 256)) (sub_byte (d % 256))
    ∷ (mix_byte (sub_byte (b / 65536 % 256)) (sub_byte (c / 256 % 256)) (sub_byte (d % 256)) (sub_byte (a / 16777216 % 256))
    ∷ (mix_byte (sub_byte (c / 256 % 256)) (sub_byte (d % 256)) (sub_byte (a / 16777216 % 256)) (sub_byte (b / 65536 % 256))
    ∷ (mix_byte (sub_byte (d % 256)) (sub_byte (a / 16777216 % 256)) (sub_byte (b / 65536 % 256)) (sub_byte (c / 256 % 256)) ∷ [])))) (word_bytes k)
unfolding sub_mixed
sub_mixed_bytes a b c d k h = mixed_word_bytes (sub_byte (a / 16777216 % 256)) (sub_byte (b / 65536 % 256)) (sub_byte (c / 256 % 256)) (sub_byte (d % 256)) k h

pub round_is : (a b c d k l m n : ℕ) → k < 4294967296 → l < 4294967296 → m < 4294967296 → n < 4294967296
    → words_bytes (bit_xor (sub_mixed a b c d) k ∷ (bit_xor (sub_mixed b c d a) l ∷ (bit_xor (sub_mixed c d a b) m ∷ (bit_xor (sub_mixed d a b c) n ∷ []))))
    ≡ xor_bytes (mix_columns 4 (shift_rows (sub_bytes (words_bytes (a ∷ (b ∷ (c ∷ (d ∷ [])))))))) (words_bytes (k ∷ (l ∷ (m ∷ (n ∷ [])))))
unfolding words_bytes xor_bytes mix_columns nth drop
round_is a b c d k l m n p q r s =
    rw (sub_bytes_is (words_bytes (a ∷ (b ∷ (c ∷ (d ∷ []))))))
    (ap₂ (λ (x y : List ℕ). x ++ y) (sub_mixed_bytes a b c d k p)
    (ap₂ (λ (x y : List ℕ). x ++ y) (sub_mixed_bytes b c d a l q)
    (ap₂ (λ (x y : List ℕ). x ++ y) (sub_mixed_bytes c d a b m r)
    (ap (λ (x : List ℕ). x ++ []) (sub_mixed_bytes d a b c n s)))))

pub last_round_is : (a b c d k l m n : ℕ) → k < 4294967296 → l < 4294967296 → m < 4294967296 → n < 4294967296
    → words_bytes (bit_xor (sub_word a b c d) k ∷ (bit_xor (sub_word b c d a) l ∷ (bit_xor (sub_word c d a b) m ∷ (bit_xor (sub_word d a b c) n ∷ []))))
    ≡ xor_bytes (shift_rows (sub_bytes (words_bytes (a ∷ (b ∷ (c ∷ (d ∷ []))))))) (words_bytes (k ∷ (l ∷ (m ∷ (n ∷ [])))))
unfolding words_bytes xor_bytes nth
last_round_is a b c d k l m n p q r s =
    rw (sub_bytes_is (words_bytes (a ∷ (b ∷ (c ∷ (d ∷ []))))))
    (ap₂ (λ (x y : List ℕ). x ++ y) (sub_word_bytes a b c d k p)
    (ap₂ (λ (x y : List ℕ). x ++ y) (sub_word_bytes b c d a l q)
    (ap₂ (λ (x y : List ℕ). x ++ y) (sub_word_bytes c d a b m r)
    (ap (λ (x : List ℕ). x ++ []) (sub_word_bytes d a b c n s)))))

-- a block and the first round key, column by column
module _ (b k : List ℕ) (fits : (i : ℕ) → get_or b i 0 < 256) where
  abbrev pub loaded : ℕ → ℕ → ℕ
  loaded i j = bit_xor (word (get_or b i 0) (get_or b (i + 1) 0) (get_or b (i + 2) 0) (get_or b (i + 3) 0)) (get_or k j 0)

  loaded_bytes : (i j : ℕ) → get_or k j 0 < 4294967296
      → word_bytes (loaded i j) ≡ xor_bytes (with_four b i []) (word_bytes (get_or k j 0))
  loaded_bytes i j h = xor-word_bytes (get_or b i 0) (get_or b (i + 1) 0) (get_or b (i + 2) 0) (get_or b (i + 3) 0) (get_or k j 0) (fits i) (fits (i + 1)) (fits (i + 2)) (fits (i + 3)) h

  pub load_is : length b ≡ 16 → length k ≡ 4 → get_or k 0 0 < 4294967296 → get_or k 1 0 < 4294967296 → get_or k 2 0 < 4294967296 → get_or k 3 0 < 4294967296
      → words_bytes (loaded 0 0 ∷ (loaded 4 1 ∷ (loaded 8 2 ∷ (loaded 12 3 ∷ [])))) ≡ xor_bytes b (words_bytes k)
  unfolding words_bytes xor_bytes
  load_is lb lk k0 k1 k2 k3 =
      ap₂ (λ (x y : List ℕ). x ++ y) (loaded_bytes 0 0 k0)
      (ap₂ (λ (x y : List ℕ). x ++ y) (loaded_bytes 4 1 k1)
      (ap₂ (λ (x y : List ℕ). x ++ y) (loaded_bytes 8 2 k2)
      (ap (λ (x : List ℕ). x ++ []) (loaded_bytes 12 3 k3))))
      ∙ ap₂ (λ (x y : List ℕ). xor_bytes x (words_bytes y)) (sym (all_sixteen b lb)) (sym (all_four k lk))

-- the rounds that are left, from the words that are left: one more, the last, and all
module _ (ks : List ℕ) where
  pub rounds_more : (n i : ℕ) (s : List ℕ) → i + 4 ≤ length ks
      → cipher_rounds (suc n) (words_bytes (ldrop i ks)) s
      ≡ cipher_rounds n (words_bytes (ldrop (i + 4) ks)) (xor_bytes (mix_columns 4 (shift_rows (sub_bytes s))) (words_bytes (with_four ks i [])))
  unfolding cipher_rounds words_bytes xor_bytes mix_columns drop
  rounds_more n i s h = ap (λ (t : List ℕ). cipher_rounds (suc n) (words_bytes t) s) (drop_four ks i h)

  pub rounds_last : (i : ℕ) (s : List ℕ) → i + 4 ≤ length ks
      → cipher_rounds 0 (words_bytes (ldrop i ks)) s ≡ xor_bytes (shift_rows (sub_bytes s)) (words_bytes (with_four ks i []))
  unfolding cipher_rounds words_bytes xor_bytes
  rounds_last i s h = ap (λ (t : List ℕ). cipher_rounds 0 (words_bytes t) s) (drop_four ks i h)

  pub rounds_all : (b : List ℕ) → 4 ≤ length ks → length b ≡ 16
      → aes (words_bytes ks) b ≡ cipher_rounds 13 (words_bytes (ldrop 4 ks)) (xor_bytes b (words_bytes (with_four ks 0 [])))
  unfolding aes words_bytes xor_bytes drop
  rounds_all b h l =
      ap₂ (λ (t u : List ℕ). aes (words_bytes t) u) (drop_four ks 0 h) (all_sixteen b l)
      ∙ ap (λ (u : List ℕ). cipher_rounds 13 (words_bytes (ldrop 4 ks)) (xor_bytes u (words_bytes (with_four ks 0 [])))) (sym (all_sixteen b l))
