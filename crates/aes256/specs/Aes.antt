-- AES with 256 bits of key (FIPS 197), one block encrypted. These are definitions: they assume nothing.
use Rattle.std.specs.Prelude.{ℕ, zero, suc, ◌+◌, ◌-◌, ◌*◌, ◌/◌, ◌%◌, List, [], ◌∷◌, ◌++◌, ◌==◌}
use Rattle.octets.specs.Bits.{pick, bits_xor, pow2}
use Rattle.octets.specs.Bytes.{take, drop, nth, xor_bytes}
use Rattle.aes256.specs.Field.{xtime, inverse}

-- the eight bits of a byte rotated to the left
abbrev pub rotate_byte : ℕ → ℕ → ℕ
rotate_byte n a = (a * pow2 n) % 256 + a / pow2 (8 - n)

unfoldable pub sub_byte : ℕ → ℕ
sub_byte a =
    let i : ℕ = inverse a in
    bits_xor 8 (bits_xor 8 (bits_xor 8 i (rotate_byte 1 i)) (bits_xor 8 (rotate_byte 2 i) (rotate_byte 3 i))) (bits_xor 8 (rotate_byte 4 i) 99)

unfoldable pub sub_bytes : List ℕ → List ℕ
sub_bytes [] = []
sub_bytes (b ∷ bs) = sub_byte b ∷ sub_bytes bs

-- a state is 16 bytes, column by column
abbrev pub shift_rows : List ℕ → List ℕ
shift_rows s =
    nth s 0 ∷ (nth s 5 ∷ (nth s 10 ∷ (nth s 15 ∷ (nth s 4 ∷ (nth s 9 ∷ (nth s 14 ∷ (nth s 3 ∷
    (nth s 8 ∷ (nth s 13 ∷ (nth s 2 ∷ (nth s 7 ∷ (nth s 12 ∷ (nth s 1 ∷ (nth s 6 ∷ (nth s 11 ∷ [])))))))))))))))

abbrev pub mix_byte : ℕ → ℕ → ℕ → ℕ → ℕ
mix_byte a b c d = bits_xor 8 (bits_xor 8 (xtime a) (bits_xor 8 (xtime b) b)) (bits_xor 8 c d)

unfoldable pub mix_columns : ℕ → List ℕ → List ℕ
mix_columns zero s = []
mix_columns (suc n) s =
    mix_byte (nth s 0) (nth s 1) (nth s 2) (nth s 3) ∷ (mix_byte (nth s 1) (nth s 2) (nth s 3) (nth s 0)
    ∷ (mix_byte (nth s 2) (nth s 3) (nth s 0) (nth s 1) ∷ (mix_byte (nth s 3) (nth s 0) (nth s 1) (nth s 2) ∷ mix_columns n (drop 4 s))))

-- the key schedule: words are four bytes, each made from the one before and the one eight before; the words so far, the last first
unfoldable pub rcon : ℕ → ℕ
rcon zero = 1
rcon (suc n) = xtime (rcon n)

unfoldable pub word_at : List (List ℕ) → ℕ → List ℕ
word_at [] n = []
word_at (r ∷ rs) zero = r
word_at (r ∷ rs) (suc n) = word_at rs n

abbrev pub rot_word : List ℕ → List ℕ
rot_word r = nth r 1 ∷ (nth r 2 ∷ (nth r 3 ∷ (nth r 0 ∷ [])))

abbrev pub next_word : List (List ℕ) → ℕ → List ℕ
next_word rs i =
    let t : List ℕ = word_at rs 0 in
    let u : List ℕ =
    pick (i % 8 == 0) (xor_bytes (sub_bytes (rot_word t)) (rcon (i / 8 - 1) ∷ (0 ∷ (0 ∷ (0 ∷ []))))) (pick (i % 8 == 4) (sub_bytes t) t) in
    xor_bytes (word_at rs 7) u

unfoldable pub expand_words : ℕ → ℕ → List (List ℕ) → List (List ℕ)
expand_words zero i rs = rs
expand_words (suc n) i rs = expand_words n (suc i) (next_word rs i ∷ rs)

unfoldable pub key_words : ℕ → List ℕ → List (List ℕ) → List (List ℕ)
key_words zero k rs = rs
key_words (suc n) k rs = key_words n (drop 4 k) (take 4 k ∷ rs)

unfoldable pub joined : List (List ℕ) → List ℕ → List ℕ
joined [] bs = bs
joined (r ∷ rs) bs = joined rs (r ++ bs)

-- fifteen round keys of sixteen bytes, one after the other
abbrev pub round_keys : List ℕ → List ℕ
round_keys k = joined (expand_words 52 8 (key_words 8 k [])) []

-- n rounds with column mixing, and the last without
unfoldable pub cipher_rounds : ℕ → List ℕ → List ℕ → List ℕ
cipher_rounds zero ks s = xor_bytes (shift_rows (sub_bytes s)) ks
cipher_rounds (suc n) ks s = cipher_rounds n (drop 16 ks) (xor_bytes (mix_columns 4 (shift_rows (sub_bytes s))) ks)

-- a block encrypted under expanded round keys
unfoldable pub aes : List ℕ → List ℕ → List ℕ
aes ks b = cipher_rounds 13 (drop 16 ks) (xor_bytes b ks)
