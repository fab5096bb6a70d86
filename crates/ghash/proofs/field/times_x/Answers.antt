use Rattle.std.proofs.Common.{arith}
use Rattle.ghash.proofs.Words.{times_x_chosen}
use Rattle.ghash.proofs.field.times_x.Goals as goal

pub returns : goal.returns
returns c = times_x_chosen c.args.v.hi c.args.v.lo _ (omega arith) (omega arith) c.add_masked.ensures
