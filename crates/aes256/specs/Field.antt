-- The field of 256 elements, modulo x^8 + x^4 + x^3 + x + 1 (FIPS 197, 4). These are definitions: they assume nothing.
use Rattle.std.specs.Prelude.{ℕ, zero, suc, ◌-◌, ◌*◌, ◌/◌, ◌%◌, ◌==◌, nat_lt}
use Rattle.octets.specs.Bits.{pick, bits_xor}

-- times x
abbrev pub xtime : ℕ → ℕ
xtime a = pick (nat_lt a 128) (2 * a) (bits_xor 8 (2 * a - 256) 27)

unfoldable pub mul_steps : ℕ → ℕ → ℕ → ℕ
mul_steps zero a b = 0
mul_steps (suc n) a b = bits_xor 8 (pick (b % 2 == 1) a 0) (mul_steps n (xtime a) (b / 2))

abbrev pub mul : ℕ → ℕ → ℕ
mul a b = mul_steps 8 a b

abbrev pub square : ℕ → ℕ
square a = mul a a

-- the 254th power: what times a gives 1, or 0 for 0
abbrev pub inverse : ℕ → ℕ
inverse a =
    let b : ℕ = mul (square a) a in
    let c : ℕ = mul (square b) a in
    let d : ℕ = mul (square c) a in
    let e : ℕ = mul (square d) a in
    let f : ℕ = mul (square e) a in
    let g : ℕ = mul (square f) a in
    square g
