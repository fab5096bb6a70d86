use Rattle.std.proofs.Common.{◌≡◌, ℕ, ◌/◌, ◌%◌, ap, ◌∙◌, ap₂, arith}
use lib.Bits.{bit_xor}
use Rattle.aes256.specs.Aes.{sub_byte}
use Rattle.aes256.specs.Columns.{column, sub_mixed}
use Rattle.aes256.proofs.Mixing.{rotr, sub_lt, rotated_sum}
use Rattle.aes256.proofs.columns.mix_column.Goals as goal

pub returns : goal.returns
unfolding sub_mixed
returns c =
    let a : ℕ = c.args.a / 16777216 % 256 in
    let b : ℕ = c.args.b / 65536 % 256 in
    let x : ℕ = c.args.c / 256 % 256 in
    let d : ℕ = c.args.d % 256 in
    let top : c.args.a / 16777216 ≡ a = omega arith in
    let one = c.sub_and_mix.ensures ∙ ap (λ (n : ℕ). column (sub_byte n)) top in
    let two = c.rotate_right.ensures ∙ ap (rotr 8) c.sub_and_mix-2.ensures in
    let three = c.rotate_right-2.ensures ∙ ap (rotr 16) c.sub_and_mix-3.ensures in
    let four = c.rotate_right-3.ensures ∙ ap (rotr 24) c.sub_and_mix-4.ensures in
    ap (λ (n : ℕ). bit_xor n c.args.k)
    (ap₂ bit_xor (ap₂ bit_xor one two) (ap₂ bit_xor three four)
    ∙ rotated_sum (sub_byte a) (sub_byte b) (sub_byte x) (sub_byte d) (sub_lt a) (sub_lt b) (sub_lt x) (sub_lt d))
