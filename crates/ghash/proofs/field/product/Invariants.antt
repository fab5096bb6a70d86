use Rattle.std.proofs.Common.{◌≡◌, ◌-◌}
use Rattle.ghash.specs.Field.{product_steps, product}
use Rattle.ghash.specs.Element.{value}
use Rattle.ghash.proofs.field.product.Given as goal

abbrev pub invariant-loop-i : goal.invariant-loop-i
invariant-loop-i l = product_steps (128 - l.i) (value l.x) (value l.v) (value l.sum) ≡ product (value l.x) (value l.initial.v)
