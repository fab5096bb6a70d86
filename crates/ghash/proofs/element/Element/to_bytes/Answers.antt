use Rattle.std.proofs.Common.{sym, ap, ◌∙◌, arith}
use Rattle.octets.specs.Bytes.{to_bytes}
use Rattle.octets.proofs.Numbers.{to_bytes_16}
use Rattle.ghash.proofs.Sixteen.{joined}
use Rattle.ghash.proofs.element.Element.to_bytes.Goals as goal

pub returns : goal.returns
returns c =
    record { value = c.to_be_bytes.ensures ∙ (sym (to_bytes_16 _) ∙ ap (λ k. to_bytes 16 k) (joined c.args.self.hi c.args.self.lo (omega arith) (omega arith))) }
