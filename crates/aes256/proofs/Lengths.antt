-- How long what the definitions give is: 240 bytes of round keys from 32 of key, and 16 of a block; and that those are bytes.
use Rattle.std.proofs.Common.{◌≡◌, ℕ, zero, suc, ◌+◌, ◌-◌, ◌*◌, ◌/◌, ◌%◌, ◌<◌, ◌≤◌, Bool, true, false, ◌&&◌, eqb, List, [], ◌∷◌, ◌++◌, length, refl, ap, ◌∙◌, ap₂, arith, length-append}
use Rattle.std.proofs.lemmas.Bool.{lt-ltb}
use Rattle.octets.specs.Bits.{pick, bits_xor}
use Rattle.octets.specs.Bytes.{take, drop, xor_bytes, all_bytes}
use Rattle.octets.proofs.Bits.{bits_xor_lt}
use Rattle.octets.proofs.Lists.{length-take, length-drop}
use Rattle.octets.proofs.XorBytes.{length-xor}
use Rattle.aes256.specs.Aes.{aes, cipher_rounds, expand_words, joined, key_words, mix_columns, next_word, rcon, rot_word, round_keys, shift_rows, sub_bytes, word_at}

-- a block of the cipher has sixteen bytes where the keys suffice
length_rounds : (n : ℕ) (ks s : List ℕ) → 16 * n + 16 ≤ length ks → length (cipher_rounds n ks s) ≡ 16
unfolding cipher_rounds
length_rounds zero ks s h = length-xor (shift_rows (sub_bytes s)) ks (omega arith)
length_rounds (suc n) ks s h =
    let l : length (drop 16 ks) ≡ length ks - 16 = length-drop 16 ks in
    length_rounds n (drop 16 ks) (xor_bytes (mix_columns 4 (shift_rows (sub_bytes s))) ks) (omega arith)

pub length-aes : (ks b : List ℕ) → length ks ≡ 240 → length (aes ks b) ≡ 16
unfolding aes
length-aes ks b h =
    let l : length (drop 16 ks) ≡ length ks - 16 = length-drop 16 ks in
    length_rounds 13 (drop 16 ks) (xor_bytes b ks) (omega arith)

-- and they are bytes
xor_all_bytes : (xs ys : List ℕ) → all_bytes (xor_bytes xs ys) ≡ true
unfolding all_bytes xor_bytes
xor_all_bytes [] ys = refl
xor_all_bytes (x ∷ xs) [] = refl
xor_all_bytes (x ∷ xs) (y ∷ ys) = ap₂ ◌&&◌ (lt-ltb (bits_xor 8 x y) 256 (bits_xor_lt 8 x y)) (xor_all_bytes xs ys)

all_bytes_rounds : (n : ℕ) (ks s : List ℕ) → all_bytes (cipher_rounds n ks s) ≡ true
unfolding cipher_rounds
all_bytes_rounds zero ks s = xor_all_bytes (shift_rows (sub_bytes s)) ks
all_bytes_rounds (suc n) ks s = all_bytes_rounds n (drop 16 ks) (xor_bytes (mix_columns 4 (shift_rows (sub_bytes s))) ks)

pub all_bytes-aes : (ks b : List ℕ) → all_bytes (aes ks b) ≡ true
unfolding aes
all_bytes-aes ks b = all_bytes_rounds 13 (drop 16 ks) (xor_bytes b ks)

-- words of four bytes
abbrev Fours : List (List ℕ) → Type 0
Fours [] = Unit {0}
Fours (r ∷ rs) = (length r ≡ 4) × Fours rs

word_four : (rs : List (List ℕ)) (i : ℕ) → Fours rs → i < length rs → length (word_at rs i) ≡ 4
unfolding word_at
word_four [] i f h = omega arith
word_four (r ∷ rs) zero f h = f.0
word_four (r ∷ rs) (suc i) f h = word_four rs i f.1 (omega arith)

length_sub : (xs : List ℕ) → length (sub_bytes xs) ≡ length xs
unfolding sub_bytes
length_sub [] = refl
length_sub (x ∷ xs) = ap suc (length_sub xs)

pick_four : (b : Bool) (xs ys : List ℕ) → length xs ≡ 4 → length ys ≡ 4 → length (pick b xs ys) ≡ 4
unfolding pick
pick_four true xs ys p q = p
pick_four false xs ys p q = q

next_four : (rs : List (List ℕ)) (i : ℕ) → Fours rs → 8 ≤ length rs → length (next_word rs i) ≡ 4
next_four rs i f h =
    let t : List ℕ = word_at rs 0 in
    let lt : length t ≡ 4 = word_four rs 0 f (omega arith) in
    let ls : length (word_at rs 7) ≡ 4 = word_four rs 7 f (omega arith) in
    let w : List ℕ = rcon (i / 8 - 1) ∷ (0 ∷ (0 ∷ (0 ∷ []))) in
    let lu : length (xor_bytes (sub_bytes (rot_word t)) w) ≡ 4 =
    length-xor (sub_bytes (rot_word t)) w (omega (arith, length_sub (rot_word t))) ∙ length_sub (rot_word t) in
    let lv : length (pick (eqb (i % 8) 4) (sub_bytes t) t) ≡ 4 = pick_four (eqb (i % 8) 4) (sub_bytes t) t (length_sub t ∙ lt) lt in
    let u : List ℕ = pick (eqb (i % 8) 0) (xor_bytes (sub_bytes (rot_word t)) w) (pick (eqb (i % 8) 4) (sub_bytes t) t) in
    let lw : length u ≡ 4 = pick_four (eqb (i % 8) 0) (xor_bytes (sub_bytes (rot_word t)) w) (pick (eqb (i % 8) 4) (sub_bytes t) t) lu lv in
    length-xor (word_at rs 7) u (omega arith) ∙ ls

schedule_fours : (n i : ℕ) (rs : List (List ℕ)) → Fours rs → 8 ≤ length rs → Fours (expand_words n i rs) × (length (expand_words n i rs) ≡ n + length rs)
unfolding expand_words
schedule_fours zero i rs f h = (f, omega arith)
schedule_fours (suc n) i rs f h =
    let p = schedule_fours n (suc i) (next_word rs i ∷ rs) (next_four rs i f h, f) (omega arith) in
    (p.0, p.1 ∙ omega arith)

key_fours : (n : ℕ) (k : List ℕ) (rs : List (List ℕ)) → Fours rs → 4 * n ≤ length k → Fours (key_words n k rs) × (length (key_words n k rs) ≡ n + length rs)
unfolding key_words
key_fours zero k rs f h = (f, omega arith)
key_fours (suc n) k rs f h =
    let l : length (take 4 k) ≡ 4 = length-take 4 k (omega arith) in
    let d : length (drop 4 k) ≡ length k - 4 = length-drop 4 k in
    let p = key_fours n (drop 4 k) (take 4 k ∷ rs) (l, f) (omega arith) in
    (p.0, p.1 ∙ omega arith)

length_joined : (rs : List (List ℕ)) (bs : List ℕ) → Fours rs → length (joined rs bs) ≡ 4 * length rs + length bs
unfolding joined
length_joined [] bs f = omega arith
length_joined (r ∷ rs) bs f =
    let l : length (r ++ bs) ≡ length r + length bs = length-append r bs in
    let e = f.0 in
    length_joined rs (r ++ bs) f.1 ∙ omega arith

pub length-round_keys : (key : List ℕ) → length key ≡ 32 → length (round_keys key) ≡ 240
length-round_keys key h =
    let k = key_fours 8 key [] tt (omega arith) in
    let s = schedule_fours 52 8 (key_words 8 key []) k.0 (omega (arith, k.1)) in
    length_joined (expand_words 52 8 (key_words 8 key [])) [] s.0 ∙ omega (arith, k.1, s.1)
