use Rattle.octets.proofs.Writing.{writes_then}
use Rattle.header.proofs.part.PairPart.put.Goals as goal

pub returns : goal.returns
returns c = record { value = writes_then _ _ _ _ _ c.put_field-2.result c.in_ok-put_field.ensures c.put_field-2.ensures }
