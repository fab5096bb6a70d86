use Rattle.octets.proofs.Writing.{writes_then}
use Rattle.header.proofs.part.put_field.Goals as goal

pub returns : goal.returns
returns c = writes_then _ _ _ _ _ c.put.result c.in_ok-put_number.ensures.value c.put.ensures.value
