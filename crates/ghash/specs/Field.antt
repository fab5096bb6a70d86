-- The field of 2^128 elements as GCM writes it (SP 800-38D, 6.3): the high bit of the first byte is the coefficient of 1.
-- These are definitions: they assume nothing.
use Rattle.std.specs.Prelude.{ℕ, zero, suc, ◌/◌, ◌%◌, ◌==◌}
use Rattle.octets.specs.Bits.{pick, bits_xor, pow2}

-- the polynomial that products are reduced by: 225 in the first byte
abbrev pub reduction : ℕ
reduction = 299076299051606071403356588563077529600

unfoldable pub product_steps : ℕ → ℕ → ℕ → ℕ → ℕ
product_steps zero x v z = z
product_steps (suc n) x v z =
    product_steps n x (pick (v % 2 == 1) (bits_xor 128 (v / 2) reduction) (v / 2)) (pick (x / pow2 n % 2 == 1) (bits_xor 128 z v) z)

abbrev pub product : ℕ → ℕ → ℕ
product x y = product_steps 128 x y 0
