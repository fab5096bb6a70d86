use Rattle.std.proofs.Common.{sym, ◌∙◌}
use Rattle.octets.proofs.Numbers.{to_bytes_8}
use Rattle.octets.proofs.number.U64Word8.to_bytes.Goals as goal

pub returns : goal.returns
returns c = record { value = c.to_be_bytes.ensures ∙ sym (to_bytes_8 c.args.self) }
