use Rattle.std.proofs.Common.{sym, ◌∙◌}
use Rattle.octets.proofs.Numbers.{to_bytes_4}
use Rattle.octets.proofs.number.U32Word4.to_bytes.Goals as goal

pub returns : goal.returns
returns c = record { value = c.to_be_bytes.ensures ∙ sym (to_bytes_4 c.args.self) }
