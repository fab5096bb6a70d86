use Rattle.std.proofs.Common.{ap, ◌∙◌, arith, take_all}
use Rattle.octets.specs.Bytes.{of_bytes}
use Rattle.octets.proofs.Numbers.{of_first_2}
use Rattle.octets.proofs.number.U16Word2.from_bytes.Goals as goal

pub returns : goal.returns
returns c = record { value = c.from_be_bytes.ensures ∙ of_first_2 c.args.bytes.now (omega arith) ∙ ap of_bytes (take_all 2 c.args.bytes.now (omega arith)) }
