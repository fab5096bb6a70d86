-- The 32 bytes that a prepared key stands for.
use Rattle.std.specs.Prelude.{ℕ, List}
use Rattle.aes256.specs.RoundKeys as RoundKeys
use Rattle.gcm.specs.declared.key.Key.{Key}

unfoldable pub key_of : Key → List ℕ
key_of k = RoundKeys.key_of k.keys
