use Rattle.std.proofs.Common.{◌+◌, ◌-◌, ◌≡◌, [], ◌∷◌, ap, ◌∙◌, arith}
use Rattle.octets.proofs.Cuts.{and_then_some, and_then_none}
use Rattle.header_read.specs.Cuts.{skipped}
use Rattle.header_read.specs.Cursor.{entries_cut}
use Rattle.header_read.proofs.Listing.{skipped_next, skipped_short, skipped_end}
use Rattle.header_read.proofs.entries.Entries.cut.Goals as goal

pub returns-in_err-rest : goal.returns-in_err-rest
returns-in_err-rest g c =
    let s : [] ≡ skipped g.K.Kind.cut c.args.count c.args.bytes.now = skipped_short g.K.Kind.cut _ (c.args.count - (c.loop.counter + 1)) _ (omega arith) c.in_err-rest.ensures.value ∙ c.loop.invariant in
    record { value = ap (entries_cut g.K.Kind.cut) c.from_residual.ensures ∙ and_then_none _ _ s }

pub loop-preserved : goal.loop-preserved
loop-preserved g c = skipped_next g.K.Kind.cut _ _ _ _ (omega arith) c.in_ok-rest.ensures.value ∙ c.loop.invariant

pub returns : goal.returns
returns g c =
    let s : (c.loop.rest.now ∷ []) ≡ skipped g.K.Kind.cut c.args.count c.args.bytes.now = skipped_end g.K.Kind.cut _ _ (omega arith) ∙ c.loop.invariant in
    record { value = and_then_some _ _ _ s }
