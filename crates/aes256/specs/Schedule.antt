-- The key schedule on words: one word from the one before and the one eight before, and the words so far.
use Rattle.std.specs.Prelude.{ℕ, zero, suc, ◌-◌, ◌/◌, ◌%◌, List, [], ◌∷◌, ◌==◌, slice_index}
use Rattle.octets.specs.Bits.{pick}
use Rattle.octets.specs.Bytes.{xor_bytes}
use Rattle.aes256.specs.Aes.{sub_bytes, rot_word, rcon}
use Rattle.aes256.specs.Columns.{word_bytes}

unfoldable pub next_of : List ℕ → List ℕ → ℕ → List ℕ
next_of t old i =
    xor_bytes old (pick (i % 8 == 0) (xor_bytes (sub_bytes (rot_word t)) (rcon (i / 8 - 1) ∷ (0 ∷ (0 ∷ (0 ∷ []))))) (pick (i % 8 == 4) (sub_bytes t) t))

-- the bytes of each of the first n words, the last word first
unfoldable pub words_upto : List ℕ → ℕ → List (List ℕ)
words_upto w zero = []
words_upto w (suc n) = word_bytes (slice_index w n) ∷ words_upto w n
