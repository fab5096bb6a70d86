use Rattle.std.proofs.Common.{◌∙◌, arith}
use Rattle.ghash.proofs.Sixteen.{halves, sixteen_bytes}
use Rattle.ghash.proofs.element.Element.from_bytes.Goals as goal

pub returns : goal.returns
returns c = record { value = halves c.from_be_bytes-number.result ∙ (c.from_be_bytes-number.ensures ∙ sixteen_bytes c.args.bytes.now (omega arith)) }
