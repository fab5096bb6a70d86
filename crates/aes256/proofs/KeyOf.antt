-- The key that round keys are for has 32 bytes.
use Rattle.std.proofs.Common.{◌≡◌, ℕ, ◌/◌, ◌%◌, true, ◌&&◌, ltb, List, [], ◌∷◌, length, refl, ap, ap₂, arith}
use Rattle.std.proofs.lemmas.Bool.{lt-ltb}
use Rattle.octets.specs.Bytes.{all_bytes, take}
use Rattle.aes256.specs.Columns.{words_bytes}
use Rattle.aes256.specs.RoundKeys.{key_of}
use Rattle.aes256.specs.declared.keys.RoundKeys.{RoundKeys}
use Rattle.aes256.proofs.WordBytes.{first_eight}

pub length_key : (r : RoundKeys) → length (key_of r) ≡ 32
unfolding key_of words_bytes take
length_key r =
    let l : length r.words ≡ 60 = r.long in
    ap (λ (w : List ℕ). length (words_bytes (take 8 w))) (first_eight r.words (omega arith))

byte : (n : ℕ) → ltb (n % 256) 256 ≡ true
byte n = lt-ltb (n % 256) 256 (omega arith)

words_all_bytes : (ws : List ℕ) → all_bytes (words_bytes ws) ≡ true
unfolding all_bytes words_bytes
words_all_bytes [] = refl
words_all_bytes (w ∷ ws) =
    ap₂ ◌&&◌ (byte (w / 16777216)) (ap₂ ◌&&◌ (byte (w / 65536)) (ap₂ ◌&&◌ (byte (w / 256)) (ap₂ ◌&&◌ (byte w) (words_all_bytes ws))))

pub all_bytes_key : (r : RoundKeys) → all_bytes (key_of r) ≡ true
unfolding key_of
all_bytes_key r = words_all_bytes (take 8 r.words)
