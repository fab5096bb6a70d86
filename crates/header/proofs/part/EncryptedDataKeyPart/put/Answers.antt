use Rattle.octets.proofs.Writing.{writes_then}
use Rattle.header.proofs.part.EncryptedDataKeyPart.put.Goals as goal

pub returns : goal.returns
returns c = record { value = writes_then _ _ _ _ _ c.put_field-3.result c.in_ok-put_field.ensures (writes_then _ _ _ _ _ c.put_field-3.result c.in_ok-put_field-2.ensures c.put_field-3.ensures) }
