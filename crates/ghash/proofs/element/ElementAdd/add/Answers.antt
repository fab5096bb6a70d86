use Rattle.std.proofs.Common.{arith}
use Rattle.ghash.proofs.Words.{xor_words}
use Rattle.ghash.proofs.element.ElementAdd.add.Goals as goal

pub returns : goal.returns
returns c = xor_words c.args.self.hi c.args.self.lo c.args.other.hi c.args.other.lo (omega arith) (omega arith) (omega arith) (omega arith)
