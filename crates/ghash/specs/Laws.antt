-- The laws of the field's product on elements, numbers of 128 bits. Each is a type whose proof is owed.
use Rattle.std.specs.Prelude.{◌≡◌, ℕ, ◌^◌, ◌<◌}
use Rattle.octets.specs.Bits.{bits_xor}
use Rattle.ghash.specs.Field.{product}

unfoldable pub LinearLeft : Type 0
LinearLeft = (a b h : ℕ) → a < 2 ^ 128 → b < 2 ^ 128 → h < 2 ^ 128 → product (bits_xor 128 a b) h ≡ bits_xor 128 (product a h) (product b h)

unfoldable pub LinearRight : Type 0
LinearRight = (h a b : ℕ) → a < 2 ^ 128 → b < 2 ^ 128 → product h (bits_xor 128 a b) ≡ bits_xor 128 (product h a) (product h b)

unfoldable pub Commutative : Type 0
Commutative = (a b : ℕ) → a < 2 ^ 128 → b < 2 ^ 128 → product a b ≡ product b a

unfoldable pub Associative : Type 0
Associative = (a b c : ℕ) → a < 2 ^ 128 → b < 2 ^ 128 → c < 2 ^ 128 → product (product a b) c ≡ product a (product b c)
