use Rattle.std.proofs.Common.{◌-◌, arith}
use Rattle.ghash.specs.Element.{value}
use Rattle.ghash.proofs.Steps.{product_turn, product_end}
use Rattle.ghash.proofs.field.product.Goals as goal

pub loop-i-preserved : goal.loop-i-preserved
loop-i-preserved c =
    product_turn c.loop-i.i (value c.args.x) (value c.loop-i.v) (value c.loop-i.sum) (value c.times_x-v.result) (value c.add_masked-sum.result)
    c.bit.result _ c.loop-i-test.true c.bit.ensures c.add_masked-sum.ensures c.times_x-v.ensures c.loop-i.invariant

pub returns : goal.returns
returns c =
    record { value = product_end (128 - c.loop-i.i) (value c.args.x) (value c.loop-i.v) (value c.loop-i.sum) _ (omega arith) c.loop-i.invariant }
