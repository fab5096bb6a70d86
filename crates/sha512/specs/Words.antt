-- The operations of SHA-512 on words of 64 bits (FIPS 180-4, 4.1.3). These are definitions: they assume nothing.
use Rattle.std.specs.Prelude.{ℕ, ◌+◌, ◌-◌, ◌*◌, ◌/◌, ◌%◌}
use Rattle.octets.specs.Bits.{bits_and, bits_xor, pow2}

abbrev pub word : ℕ
word = 18446744073709551616

abbrev pub add : ℕ → ℕ → ℕ
add a b = (a + b) % word

abbrev pub xor : ℕ → ℕ → ℕ
xor a b = bits_xor 64 a b

abbrev pub rotate_right : ℕ → ℕ → ℕ
rotate_right n a = a / pow2 n + (a % pow2 n) * pow2 (64 - n)

abbrev pub choose : ℕ → ℕ → ℕ → ℕ
choose e f g = xor (bits_and 64 e f) (bits_and 64 (word - 1 - e) g)

abbrev pub majority : ℕ → ℕ → ℕ → ℕ
majority a b c = xor (xor (bits_and 64 a b) (bits_and 64 a c)) (bits_and 64 b c)

abbrev pub big_sigma0 : ℕ → ℕ
big_sigma0 a = xor (xor (rotate_right 28 a) (rotate_right 34 a)) (rotate_right 39 a)

abbrev pub big_sigma1 : ℕ → ℕ
big_sigma1 a = xor (xor (rotate_right 14 a) (rotate_right 18 a)) (rotate_right 41 a)

abbrev pub small_sigma0 : ℕ → ℕ
small_sigma0 a = xor (xor (rotate_right 1 a) (rotate_right 8 a)) (a / pow2 7)

abbrev pub small_sigma1 : ℕ → ℕ
small_sigma1 a = xor (xor (rotate_right 19 a) (rotate_right 61 a)) (a / pow2 6)
