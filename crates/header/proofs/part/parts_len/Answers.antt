use Rattle.std.proofs.Common.{length, sym, ◌∙◌, arith}
use Rattle.std.specs.List.{flat_map, list_all}
use Rattle.std.proofs.lemmas.List.{at_drop_all}
use Rattle.std.proofs.lemmas.Bool.{and_from, lt-ltb}
use Rattle.header.proofs.Parts.{length_if_true}
use Rattle.header.proofs.part.parts_len.Goals as goal

pub returns : goal.returns
returns g c =
    let none = at_drop_all (λ l. length (flat_map g.P.Part.bytes l)) c.args.parts.now c.loop-part.part-index c.loop-part-test.false in
    let short = sym c.loop-part.invariant.short ∙ at_drop_all (list_all g.P.Part.short) c.args.parts.now c.loop-part.part-index c.loop-part-test.false in
    length_if_true _ _ _ (and_from _ _ short (lt-ltb _ _ (omega arith))) (omega arith)
