use Rattle.std.proofs.Common.{◌≡◌, ◌+◌, ◌-◌}
use Rattle.ghash.specs.Field.{product_steps}
use Rattle.ghash.specs.Steps.{times_power}
use Rattle.ghash.specs.Rows.{quad_value}
use Rattle.ghash.specs.Table.{hash_key_of}
use Rattle.ghash.proofs.table.Table.add_rows.Given as goal

abbrev pub invariant-loop-j : goal.invariant-loop-j
invariant-loop-j l =
    product_steps (32 - l.j) l.word (times_power (l.from + l.j) (hash_key_of l.self)) (quad_value l.s)
    ≡ product_steps 32 l.word (times_power l.from (hash_key_of l.self)) (quad_value l.initial.s)
