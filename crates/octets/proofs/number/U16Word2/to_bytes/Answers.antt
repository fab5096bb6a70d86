use Rattle.std.proofs.Common.{sym, ◌∙◌}
use Rattle.octets.proofs.Numbers.{to_bytes_2}
use Rattle.octets.proofs.number.U16Word2.to_bytes.Goals as goal

pub returns : goal.returns
returns c = record { value = c.to_be_bytes.ensures ∙ sym (to_bytes_2 c.args.self) }
