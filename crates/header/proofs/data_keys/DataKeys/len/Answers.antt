use Rattle.std.proofs.Common.{arith}
use Rattle.header.proofs.Lengths.{data_keys_bounded}
use Rattle.header.proofs.data_keys.DataKeys.len.Goals as goal

pub overflow_add-result : goal.overflow_add-result
overflow_add-result c = omega (arith, c.args.self.long, data_keys_bounded c.args.self.keys.now c.args.self.few c.args.self.short)
