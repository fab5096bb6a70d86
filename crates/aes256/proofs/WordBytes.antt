-- Words of 32 bits and their four bytes: each comes back from the other, and `^` goes byte by byte.
use Rattle.std.proofs.Common.{◌≡◌, ℕ, ◌+◌, ◌*◌, ◌/◌, ◌%◌, ◌<◌, ◌≤◌, List, [], ◌∷◌, ◌++◌, length, get_or, take, drop as ldrop, sym, refl, ap, ◌∙◌, ap₂, arith}
use lib.Bits.{bit_xor, xor_block, xor_lt}
use Rattle.std.proofs.lemmas.List.{drop_more, drop_all}
use Rattle.std.proofs.lemmas.Nat.{shr-shr, shr_split}
use Rattle.std.specs.Simd.{first_chunks}
use Rattle.octets.specs.Bytes.{xor_bytes}
use Rattle.octets.proofs.Bits.{bits_xor_is}
use Rattle.octets.proofs.Chunks.{chunk_at}
use Rattle.aes256.specs.Columns.{word, word_bytes, words_bytes}

pub bytes_of_word : (a b c d : ℕ) → a < 256 → b < 256 → c < 256 → d < 256 → word_bytes (word a b c d) ≡ a ∷ (b ∷ (c ∷ (d ∷ [])))
bytes_of_word a b c d p q r s =
    let e : word a b c d / 16777216 % 256 ≡ a = omega arith in
    let f : word a b c d / 65536 % 256 ≡ b = omega arith in
    let g : word a b c d / 256 % 256 ≡ c = omega arith in
    let h : word a b c d % 256 ≡ d = omega arith in
    cc

pub word_of_bytes : (k : ℕ) → k < 4294967296 → k ≡ word (k / 16777216 % 256) (k / 65536 % 256) (k / 256 % 256) (k % 256)
word_of_bytes k h =
    let p : k / 256 / 256 ≡ k / 65536 = shr-shr k 8 8 in
    let q : k / 65536 / 256 ≡ k / 16777216 = shr-shr k 16 8 in
    let d : k / 256 * 256 + k % 256 ≡ k = shr_split k 8 in
    let e : k / 65536 * 256 + k / 256 % 256 ≡ k / 256 = rw (sym p) (shr_split (k / 256) 8) in
    let f : k / 16777216 * 256 + k / 65536 % 256 ≡ k / 65536 = rw (sym q) (shr_split (k / 65536) 8) in
    let g : k / 16777216 % 256 ≡ k / 16777216 = omega arith in
    omega arith

pub xor_byte : (a b : ℕ) → a < 256 → b < 256 → bit_xor a b < 256
xor_byte a b h k = xor_lt 8 a b h k

pub xor_words : (a b c d e f g h : ℕ) → b < 256 → c < 256 → d < 256 → f < 256 → g < 256 → h < 256
    → bit_xor (word a b c d) (word e f g h) ≡ word (bit_xor a e) (bit_xor b f) (bit_xor c g) (bit_xor d h)
xor_words a b c d e f g h p q r s t u =
    xor_block 24 a e (b * 65536 + (c * 256 + d)) (f * 65536 + (g * 256 + h)) (omega arith) (omega arith)
    ∙ ap (λ (x : ℕ). bit_xor a e * 16777216 + x) (xor_block 16 b f (c * 256 + d) (g * 256 + h) (omega arith) (omega arith)
    ∙ ap (λ (x : ℕ). bit_xor b f * 65536 + x) (xor_block 8 c g d h r u))

-- a word given by its bytes, `^` any word
pub xor-word_bytes : (a b c d k : ℕ) → a < 256 → b < 256 → c < 256 → d < 256 → k < 4294967296
    → word_bytes (bit_xor (word a b c d) k) ≡ xor_bytes (a ∷ (b ∷ (c ∷ (d ∷ [])))) (word_bytes k)
unfolding xor_bytes
xor-word_bytes a b c d k p q r s h =
    let e : ℕ = k / 16777216 % 256 in let f : ℕ = k / 65536 % 256 in let g : ℕ = k / 256 % 256 in let i : ℕ = k % 256 in
    let e8 : e < 256 = omega arith in let f8 : f < 256 = omega arith in let g8 : g < 256 = omega arith in let i8 : i < 256 = omega arith in
    ap word_bytes (ap (bit_xor (word a b c d)) (word_of_bytes k h) ∙ xor_words a b c d e f g i q r s f8 g8 i8)
    ∙ bytes_of_word (bit_xor a e) (bit_xor b f) (bit_xor c g) (bit_xor d i) (xor_byte a e p e8) (xor_byte b f q f8) (xor_byte c g r g8) (xor_byte d i s i8)
    ∙ ap₂ (λ (x : ℕ) (t : List ℕ). x ∷ t) (sym (bits_xor_is 8 a e p e8))
    (ap₂ (λ (x : ℕ) (t : List ℕ). x ∷ t) (sym (bits_xor_is 8 b f q f8))
    (ap₂ (λ (x : ℕ) (t : List ℕ). x ∷ t) (sym (bits_xor_is 8 c g r g8))
    (ap (λ (x : ℕ). x ∷ []) (sym (bits_xor_is 8 d i s i8)))))

pub xor_any_words : (a b : ℕ) → a < 4294967296 → b < 4294967296 → word_bytes (bit_xor a b) ≡ xor_bytes (word_bytes a) (word_bytes b)
xor_any_words a b h k =
    ap (λ (n : ℕ). word_bytes (bit_xor n b)) (word_of_bytes a h)
    ∙ xor-word_bytes (a / 16777216 % 256) (a / 65536 % 256) (a / 256 % 256) (a % 256) b (omega arith) (omega arith) (omega arith) (omega arith) k

pub words_bytes-append : (xs ys : List ℕ) → words_bytes (xs ++ ys) ≡ words_bytes xs ++ words_bytes ys
unfolding words_bytes
words_bytes-append [] ys = refl
words_bytes-append (x ∷ xs) ys = ap (λ (t : List ℕ). word_bytes x ++ t) (words_bytes-append xs ys)

-- lists of a known length, element by element
pub drop_four : (xs : List ℕ) (i : ℕ) → i + 4 ≤ length xs
    → ldrop i xs ≡ get_or xs i 0 ∷ (get_or xs (i + 1) 0 ∷ (get_or xs (i + 2) 0 ∷ (get_or xs (i + 3) 0 ∷ ldrop (i + 4) xs)))
drop_four xs i h =
    let e : i + 1 + 1 ≡ i + 2 = omega arith in let f : i + 2 + 1 ≡ i + 3 = omega arith in let g : i + 3 + 1 ≡ i + 4 = omega arith in
    drop_more xs i 0 (omega arith) ∙ ap (λ (t : List ℕ). get_or xs i 0 ∷ t)
    (drop_more xs (i + 1) 0 (omega arith) ∙ ap (λ (t : List ℕ). get_or xs (i + 1) 0 ∷ t)
    (ap (λ (j : ℕ). ldrop j xs) e ∙ drop_more xs (i + 2) 0 (omega arith) ∙ ap (λ (t : List ℕ). get_or xs (i + 2) 0 ∷ t)
    (ap (λ (j : ℕ). ldrop j xs) f ∙ drop_more xs (i + 3) 0 (omega arith) ∙ ap (λ (t : List ℕ). get_or xs (i + 3) 0 ∷ t)
    (ap (λ (j : ℕ). ldrop j xs) g))))

-- the next four, and what is after them
module _ (xs : List ℕ) where
  abbrev pub with_four : ℕ → List ℕ → List ℕ
  with_four i t = get_or xs i 0 ∷ (get_or xs (i + 1) 0 ∷ (get_or xs (i + 2) 0 ∷ (get_or xs (i + 3) 0 ∷ t)))

  pub all_four : length xs ≡ 4 → xs ≡ with_four 0 []
  all_four l = drop_four xs 0 (omega arith) ∙ ap (with_four 0) (drop_all 4 xs (omega arith))

  pub first_eight : 8 ≤ length xs → xs ≡ with_four 0 (with_four 4 (ldrop 8 xs))
  first_eight h = drop_four xs 0 (omega arith) ∙ ap (with_four 0) (drop_four xs 4 (omega arith))

  pub all_sixteen : length xs ≡ 16 → xs ≡ with_four 0 (with_four 4 (with_four 8 (with_four 12 [])))
  all_sixteen l =
      drop_four xs 0 (omega arith) ∙ ap (with_four 0) (drop_four xs 4 (omega arith) ∙ ap (with_four 4)
      (drop_four xs 8 (omega arith) ∙ ap (with_four 8) (drop_four xs 12 (omega arith) ∙ ap (with_four 12) (drop_all 16 xs (omega arith)))))

-- words that are cut into fours, or bytes, and a word read from four bytes
pub four_at : (cut : List (List ℕ)) (k i : ℕ) (xs d : List ℕ) → cut ≡ first_chunks 4 k xs → i < k → 4 * k ≤ length xs → get_or cut i d ≡ with_four xs (4 * i) []
four_at cut k i xs d e h l = ap (λ (c : List (List ℕ)). get_or c i d) e ∙ chunk_at 4 k i xs d h ∙ ap (take 4) (drop_four xs (4 * i) (omega arith))

pub word_at : (w : ℕ) (four xs : List ℕ) (i : ℕ) → four ≡ with_four xs i [] → w ≡ get_or four 0 0 * 16777216 + get_or four 1 0 * 65536 + get_or four 2 0 * 256 + get_or four 3 0
    → w ≡ word (get_or xs i 0) (get_or xs (i + 1) 0) (get_or xs (i + 2) 0) (get_or xs (i + 3) 0)
word_at w four xs i e f = f ∙ ap (λ (x : List ℕ). get_or x 0 0 * 16777216 + get_or x 1 0 * 65536 + get_or x 2 0 * 256 + get_or x 3 0) e ∙ omega arith
