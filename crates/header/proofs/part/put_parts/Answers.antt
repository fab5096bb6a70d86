use Rattle.std.proofs.Common.{◌++◌, Some, length, take, sym, ap, ◌∙◌, subst, append_assoc}
use Rattle.std.specs.List.{flat_map}
use Rattle.octets.specs.Bytes.{to_bytes}
use Rattle.octets.specs.Writing.{Wrote, Lacked}
use Rattle.octets.proofs.Writing.{writes_then, lacked_then}
use Rattle.header.proofs.Parts.{flat_map_item, flat_map_at}
use Rattle.header.proofs.part.put_parts.Goals as goal

pub returns-in_err-put : goal.returns-in_err-put
returns-in_err-put g c =
    let all = flat_map_at g.P.Part.bytes c.args.parts.now c.loop-part.part-index c.part-item.result c.loop-part-test.true c.part-item.is in
    let count = to_bytes 2 (length c.args.parts.now) in
    rw c.from_residual-in_err-put.ensures (
    subst (λ l. Lacked c.args.to.now l c.put.new.to) (append_assoc count (flat_map g.P.Part.bytes (take c.loop-part.part-index c.args.parts.now)) _ ∙ ap (λ l. count ++ l) all)
    (lacked_then _ _ _ _ _ _ c.loop-part.invariant c.in_err-put.ensures.value))

pub loop-part-preserved : goal.loop-part-preserved
loop-part-preserved g c =
    let more = flat_map_item g.P.Part.bytes c.args.parts.now c.loop-part.part-index c.part-item.result c.loop-part-test.true c.part-item.is in
    let count = to_bytes 2 (length c.args.parts.now) in
    subst (λ l. Wrote c.args.to.now l c.put.new.to) (append_assoc count (flat_map g.P.Part.bytes (take c.loop-part.part-index c.args.parts.now)) _ ∙ ap (λ l. count ++ l) (sym more))
    (writes_then _ _ _ _ _ (Some tt) c.loop-part.invariant c.in_ok-put.ensures.value)
