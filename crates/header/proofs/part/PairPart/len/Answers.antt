use Rattle.std.proofs.Common.{arith}
use Rattle.header.proofs.Parts.{field_told}
use Rattle.header.proofs.part.PairPart.len.Goals as goal

pub overflow_add-result : goal.overflow_add-result
overflow_add-result c =
    let n = field_told _ _ c.in_ok-field_len.ensures in
    let v = field_told _ _ c.in_ok-field_len-2.ensures in
    omega (arith, n.few, v.few)
