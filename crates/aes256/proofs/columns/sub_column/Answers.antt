use Rattle.std.proofs.Common.{◌≡◌, ℕ, ◌/◌, ◌%◌, ap, ◌∙◌, arith}
use lib.Bits.{bit_xor}
use Rattle.aes256.specs.Aes.{sub_byte}
use Rattle.aes256.specs.Columns.{sub_word}
use Rattle.aes256.proofs.columns.sub_column.Goals as goal

pub returns : goal.returns
unfolding sub_word
returns c =
    let top : c.args.a / 16777216 ≡ c.args.a / 16777216 % 256 = omega arith in
    let one : c.sub_byte.result ≡ sub_byte (c.args.a / 16777216 % 256) = c.sub_byte.ensures ∙ ap sub_byte top in
    ap (λ (n : ℕ). bit_xor n c.args.k) (omega (arith, c.from_be_bytes-r.ensures))
