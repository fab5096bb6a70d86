use Rattle.std.proofs.Common.{ap, ◌∙◌, arith, take_all}
use Rattle.octets.specs.Bytes.{of_bytes}
use Rattle.octets.proofs.Numbers.{of_first_4}
use Rattle.octets.proofs.number.U32Word4.from_bytes.Goals as goal

pub returns : goal.returns
returns c = record { value = c.from_be_bytes.ensures ∙ of_first_4 c.args.bytes.now (omega arith) ∙ ap of_bytes (take_all 4 c.args.bytes.now (omega arith)) }
