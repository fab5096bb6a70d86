-- Which key the round keys are for: their first eight words are its 32 bytes.
use Rattle.std.specs.Prelude.{ℕ, List}
use Rattle.octets.specs.Bytes.{take}
use Rattle.aes256.specs.Columns.{words_bytes}
use Rattle.aes256.specs.declared.keys.RoundKeys.{RoundKeys}

unfoldable pub key_of : RoundKeys → List ℕ
key_of r = words_bytes (take 8 r.words)
