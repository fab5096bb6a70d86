-- GHASH (SP 800-38D, 6.4). These are definitions: they assume nothing.
use Rattle.std.specs.Prelude.{ℕ, zero, suc, ◌-◌, ◌%◌, List, ◌++◌, length}
use Rattle.octets.specs.Bits.{bits_xor}
use Rattle.octets.specs.Bytes.{take, drop, repeat, of_bytes}
use Rattle.ghash.specs.Field.{product}

-- n blocks of 16 bytes into the state a, under the hash key h
unfoldable pub ghash : ℕ → ℕ → ℕ → List ℕ → ℕ
ghash zero h a bs = a
ghash (suc n) h a bs = ghash n h (product (bits_xor 128 a (of_bytes (take 16 bs))) h) (drop 16 bs)

-- filled with zeros up to whole blocks
abbrev pub zero_padded : List ℕ → List ℕ
zero_padded bs = bs ++ repeat ((16 - length bs % 16) % 16) 0
