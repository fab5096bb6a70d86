-- HMAC (RFC 2104) over SHA-512. These are definitions: they assume nothing.
use Rattle.std.specs.Prelude.{ℕ, ◌-◌, List, [], ◌∷◌, ◌++◌, length, nat_lt}
use Rattle.octets.specs.Bits.{pick, bits_xor}
use Rattle.octets.specs.Bytes.{repeat}
use Rattle.sha512.specs.Sha512.{sha512}

unfoldable pub each_xor : ℕ → List ℕ → List ℕ
each_xor k [] = []
each_xor k (b ∷ bs) = bits_xor 8 k b ∷ each_xor k bs

-- a key as one block: hashed first where it is longer than a block
abbrev pub block_key : List ℕ → List ℕ
block_key k = let h : List ℕ = pick (nat_lt 128 (length k)) (sha512 k) k in h ++ repeat (128 - length h) 0

unfoldable pub hmac : List ℕ → List ℕ → List ℕ
hmac k m = sha512 (each_xor 92 (block_key k) ++ sha512 (each_xor 54 (block_key k) ++ m))
