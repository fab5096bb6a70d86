use Rattle.std.proofs.Common.{ap, ◌∙◌, arith}
use Rattle.header_read.specs.Cursor.{entries_left, taken}
use Rattle.header_read.proofs.Listing.{listed_next, listed_short, listed_end}
use Rattle.header_read.proofs.entries.EntriesLeftIterator.next.Goals as goal

pub returns-then-self-eq0-clause-steps : goal.returns-then-self-eq0-clause-steps
returns-then-self-eq0-clause-steps g c = listed_end g.K.Kind.cut _ _ c.if-self-eq0.true

pub returns-in_err-entry-clause-steps : goal.returns-in_err-entry-clause-steps
returns-in_err-entry-clause-steps g c =
    let s = c.args.self.now in
    ap (λ r. taken g.K.Kind.says r (entries_left g.K.Kind.cut s)) c.from_residual.ensures ∙ listed_short g.K.Kind.cut s.0.count _ c.in_err-entry.ensures.value

pub returns-clause-steps : goal.returns-clause-steps
returns-clause-steps g c = listed_next g.K.Kind.cut c.args.self.now.0.count _ _ _ (omega arith) c.in_ok-entry.ensures.value
