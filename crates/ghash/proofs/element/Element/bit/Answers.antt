use Rattle.std.proofs.Common.{arith}
use Rattle.ghash.proofs.Words.{bit_low, bit_high}
use Rattle.ghash.proofs.element.Element.bit.Goals as goal

pub returns-then-n-lt64 : goal.returns-then-n-lt64
returns-then-n-lt64 c = bit_low c.args.self.hi c.args.self.lo c.args.n (omega arith)

pub returns-else-n-lt64 : goal.returns-else-n-lt64
returns-else-n-lt64 c = bit_high c.args.self.hi c.args.self.lo c.args.n (omega arith) (omega arith)
