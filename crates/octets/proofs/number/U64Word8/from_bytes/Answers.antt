use Rattle.std.proofs.Common.{◌∙◌, arith}
use Rattle.octets.proofs.Chunks.{of_8}
use Rattle.octets.proofs.number.U64Word8.from_bytes.Goals as goal

pub returns : goal.returns
returns c = record { value = c.from_be_bytes.ensures ∙ of_8 c.args.bytes.now (omega arith) }
