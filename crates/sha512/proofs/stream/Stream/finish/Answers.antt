use Rattle.std.proofs.Common.{ℕ, ◌*◌, ◌%◌, ◌^◌, sym, ◌∙◌, arith}
use Rattle.octets.proofs.Numbers.{to_bytes_16}
use Rattle.sha512.proofs.Padding.{held_padded, bits_counted}
use Rattle.sha512.proofs.stream.Stream.finish.Goals as goal

pub returns : goal.returns
returns c initial m t =
    let n : ℕ = c.args.self.total in
    held_padded m _ _ (c.update-2.ensures initial _ (c.update.ensures initial m t)) (omega (arith, c.used.ensures, t.counted))
    (c.to_be_bytes.ensures ∙ sym (to_bytes_16 (n * 8 % 2 ^ 128)) ∙ bits_counted n _ t.counted)
