-- An element times x, and times a power of x: the bits go down by one, and the polynomial is added where one falls off.
use Rattle.std.specs.Prelude.{ℕ, zero, suc, ◌/◌, ◌%◌, ◌==◌}
use Rattle.octets.specs.Bits.{pick, bits_xor}
use Rattle.ghash.specs.Field.{reduction}

unfoldable pub times_x : ℕ → ℕ
times_x v = pick (v % 2 == 1) (bits_xor 128 (v / 2) reduction) (v / 2)

unfoldable pub times_power : ℕ → ℕ → ℕ
times_power zero v = v
times_power (suc n) v = times_power n (times_x v)
