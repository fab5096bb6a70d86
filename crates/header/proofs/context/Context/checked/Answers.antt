use Rattle.std.proofs.Common.{arith}
use Rattle.header.proofs.Parts.{pairs_none, pairs_some, pairs_too_long}
use Rattle.header.proofs.Writes.{few_pairs}
use Rattle.header.proofs.context.Context.checked.Goals as goal

pub returns-then-pairs-gt-MOST_PAIRS-clause-value : goal.returns-then-pairs-gt-MOST_PAIRS-clause-value
returns-then-pairs-gt-MOST_PAIRS-clause-value c = pairs_too_long c.args.pairs.now (omega (arith, few_pairs c.args.pairs.now))

pub returns-in_err-pairs_len-clause-value : goal.returns-in_err-pairs_len-clause-value
returns-in_err-pairs_len-clause-value c = rw c.from_residual.ensures (pairs_none c.args.pairs.now c.in_err-pairs_len.ensures)

pub returns-then-pairs_len-gt-MAX_PAIRS-clause-value : goal.returns-then-pairs_len-gt-MAX_PAIRS-clause-value
returns-then-pairs_len-gt-MAX_PAIRS-clause-value c =
    let s = pairs_some c.args.pairs.now _ c.in_ok-pairs_len.ensures in
    pairs_too_long c.args.pairs.now (omega (arith, s.0))

pub invariant_of-result : goal.invariant_of-result
invariant_of-result c =
    let s = pairs_some c.args.pairs.now _ c.in_ok-pairs_len.ensures in
    record { long = s.0; fits = c.if-pairs_len-gt-MAX_PAIRS.false; short = s.1 }
