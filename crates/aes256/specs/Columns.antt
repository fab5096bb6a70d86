-- A column of four bytes as a word of 32 bits, the first byte highest; bytes substituted and mixed, as words.
use Rattle.std.specs.Prelude.{ℕ, ◌+◌, ◌*◌, ◌/◌, ◌%◌, List, [], ◌∷◌, ◌++◌}
use Rattle.octets.specs.Bits.{bits_xor}
use Rattle.aes256.specs.Field.{xtime}
use Rattle.aes256.specs.Aes.{sub_byte, mix_byte}

abbrev pub word : ℕ → ℕ → ℕ → ℕ → ℕ
word a b c d = a * 16777216 + (b * 65536 + (c * 256 + d))

-- a word's four bytes, and those of a list of words
abbrev pub word_bytes : ℕ → List ℕ
word_bytes w = w / 16777216 % 256 ∷ (w / 65536 % 256 ∷ (w / 256 % 256 ∷ (w % 256 ∷ [])))

unfoldable pub words_bytes : List ℕ → List ℕ
words_bytes [] = []
words_bytes (w ∷ ws) = word_bytes w ++ words_bytes ws

-- what the first byte of a column adds to the mixed column
abbrev pub column : ℕ → ℕ
column a = word (xtime a) a a (bits_xor 8 (xtime a) a)

-- a column mixed
unfoldable pub mixed_word : ℕ → ℕ → ℕ → ℕ → ℕ
mixed_word a b c d = word (mix_byte a b c d) (mix_byte b c d a) (mix_byte c d a b) (mix_byte d a b c)

-- bytes substituted, one from each of four columns
unfoldable pub sub_word : ℕ → ℕ → ℕ → ℕ → ℕ
sub_word a b c d = word (sub_byte (a / 16777216 % 256)) (sub_byte (b / 65536 % 256)) (sub_byte (c / 256 % 256)) (sub_byte (d % 256))

-- and mixed
unfoldable pub sub_mixed : ℕ → ℕ → ℕ → ℕ → ℕ
sub_mixed a b c d = mixed_word (sub_byte (a / 16777216 % 256)) (sub_byte (b / 65536 % 256)) (sub_byte (c / 256 % 256)) (sub_byte (d % 256))
