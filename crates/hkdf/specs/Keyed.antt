-- What an HMAC under way holds: its key, and the message so far. These are definitions: they assume nothing.
use Rattle.std.specs.Prelude.{◌≡◌, ℕ, List, ◌++◌}
use Rattle.sha512.specs.Held.{Fed}
use Rattle.hkdf.specs.Hmac.{each_xor, block_key}
use Rattle.hkdf.specs.declared.mac.Mac.{Mac}

pub record Keyed (mac : Mac) (k m : List ℕ) : Type 0 where
  pub inner : Fed mac.inner (each_xor 54 (block_key k) ++ m)
  pub outer : mac.outer ≡ each_xor 92 (block_key k)
