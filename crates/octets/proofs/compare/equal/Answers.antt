use Rattle.std.proofs.Common.{arith}
use Rattle.octets.proofs.Compared.{eq_none, eq_more, eq_lengths}
use Rattle.octets.proofs.compare.equal.Goals as goal

pub returns-then-a-b : goal.returns-then-a-b
returns-then-a-b c = record { value = eq_lengths c.args.a.now c.args.b.now c.if-a-b.true }

pub loop-i-init : goal.loop-i-init
loop-i-init c = eq_none c.args.a.now c.args.b.now

pub loop-i-preserved : goal.loop-i-preserved
loop-i-preserved c = eq_more c.args.a.now c.args.b.now c.loop-i.i c.loop-i.differ (omega arith) (omega arith) c.loop-i.invariant
