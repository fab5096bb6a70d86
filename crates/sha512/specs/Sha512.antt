-- SHA-512 (FIPS 180-4, 6.4), on bytes. These are definitions: they assume nothing.
use Rattle.std.specs.Prelude.{ℕ, zero, suc, ◌-◌, ◌*◌, ◌/◌, ◌%◌, List, [], ◌∷◌, ◌++◌, length}
use Rattle.octets.specs.Bytes.{take, drop, repeat, nth, reversed, to_bytes, of_bytes}
use Rattle.sha512.specs.Words.{add, choose, majority, big_sigma0, big_sigma1, small_sigma0, small_sigma1}
use Rattle.sha512.specs.Constants.{constants, initial_state}

-- a block's bytes as words
unfoldable pub block_words : ℕ → List ℕ → List ℕ
block_words zero bs = []
block_words (suc n) bs = of_bytes (take 8 bs) ∷ block_words n (drop 8 bs)

-- the message schedule, the last word first
unfoldable pub extend_words : ℕ → List ℕ → List ℕ
extend_words zero ws = ws
extend_words (suc n) ws = extend_words n (add (add (small_sigma1 (nth ws 1)) (nth ws 6)) (add (small_sigma0 (nth ws 14)) (nth ws 15)) ∷ ws)

-- one of eighty rounds
unfoldable pub round : List ℕ → ℕ → ℕ → List ℕ
round s k w =
    let t1 : ℕ = add (add (add (nth s 7) (big_sigma1 (nth s 4))) (add (choose (nth s 4) (nth s 5) (nth s 6)) k)) w in
    let t2 : ℕ = add (big_sigma0 (nth s 0)) (majority (nth s 0) (nth s 1) (nth s 2)) in
    add t1 t2 ∷ (nth s 0 ∷ (nth s 1 ∷ (nth s 2 ∷ (add (nth s 3) t1 ∷ (nth s 4 ∷ (nth s 5 ∷ (nth s 6 ∷ [])))))))

unfoldable pub rounds : List ℕ → List ℕ → List ℕ → List ℕ
rounds s [] ws = s
rounds s (k ∷ ks) [] = s
rounds s (k ∷ ks) (w ∷ ws) = rounds (round s k w) ks ws

unfoldable pub add_words : List ℕ → List ℕ → List ℕ
add_words [] ys = []
add_words (x ∷ xs) [] = []
add_words (x ∷ xs) (y ∷ ys) = add x y ∷ add_words xs ys

-- a state after one block of 128 bytes
abbrev pub compress_block : List ℕ → List ℕ → List ℕ
compress_block s bs = add_words s (rounds s constants (reversed (extend_words 64 (reversed (block_words 16 bs)))))

unfoldable pub hash_blocks : ℕ → List ℕ → List ℕ → List ℕ
hash_blocks zero s bs = s
hash_blocks (suc n) s bs = hash_blocks n (compress_block s (take 128 bs)) (drop 128 bs)

-- a message, a bit 1, zeros, and its length in bits in 16 bytes
abbrev pub padded : List ℕ → List ℕ
padded m = m ++ (128 ∷ (repeat ((239 - length m % 128) % 128) 0 ++ to_bytes 16 (8 * length m)))

unfoldable pub words_bytes : List ℕ → List ℕ
words_bytes [] = []
words_bytes (w ∷ ws) = to_bytes 8 w ++ words_bytes ws

-- the state after a message, and as many of its bytes as the hash has: SHA-512 and the shorter hashes of its family
abbrev pub final_state : List ℕ → List ℕ → List ℕ
final_state initial m = hash_blocks (length (padded m) / 128) initial (padded m)

unfoldable pub hash_from : List ℕ → ℕ → List ℕ → List ℕ
hash_from initial n m = take n (words_bytes (final_state initial m))

unfoldable pub sha512 : List ℕ → List ℕ
sha512 m = hash_from initial_state 64 m
