-- Choices, and bit operations on numbers of so many bits. These are definitions: they assume nothing.
use Rattle.std.specs.Prelude.{ℕ, zero, suc, ◌+◌, ◌*◌, ◌/◌, ◌%◌, Bool, true, false, ◌&&◌, ◌==◌}

-- the first of two where b is true, the second where it is false
unfoldable pub pick : {A : Type 0} → Bool → A → A → A
pick true a b = a
pick false a b = b

-- and of the n low bits
unfoldable pub bits_and : ℕ → ℕ → ℕ → ℕ
bits_and zero a b = 0
bits_and (suc n) a b = pick (a % 2 == 1 && b % 2 == 1) 1 0 + 2 * bits_and n (a / 2) (b / 2)

-- exclusive or of the n low bits
unfoldable pub bits_xor : ℕ → ℕ → ℕ → ℕ
bits_xor zero a b = 0
bits_xor (suc n) a b = pick (a % 2 == b % 2) 0 1 + 2 * bits_xor n (a / 2) (b / 2)

unfoldable pub pow2 : ℕ → ℕ
pow2 zero = 1
pow2 (suc n) = 2 * pow2 n
