use Rattle.std.proofs.Common.{arith}
use Rattle.header.proofs.Parts.{field_told}
use Rattle.header.proofs.part.EncryptedDataKeyPart.len.Goals as goal

pub overflow_add-id_and_info : goal.overflow_add-id_and_info
overflow_add-id_and_info c =
    let d = field_told _ _ c.in_ok-field_len.ensures in
    let i = field_told _ _ c.in_ok-id_and_info.ensures in
    omega (arith, d.few, i.few)

pub overflow_add-result : goal.overflow_add-result
overflow_add-result c =
    let d = field_told _ _ c.in_ok-field_len.ensures in
    let i = field_told _ _ c.in_ok-id_and_info.ensures in
    let w = field_told _ _ c.in_ok-field_len-2.ensures in
    omega (arith, d.few, i.few, w.few)
