use Rattle.std.proofs.Common.{◌+◌, ◌-◌, arith}
use Rattle.ghash.specs.Steps.{times_power}
use Rattle.ghash.specs.Rows.{quad_value}
use Rattle.ghash.specs.Table.{hash_key_of}
use Rattle.ghash.proofs.Steps.{product_end}
use Rattle.ghash.proofs.Quads.{run_turn_bit}
use Rattle.ghash.proofs.table.Table.add_rows.Goals as goal

pub loop-j-preserved : goal.loop-j-preserved
loop-j-preserved c =
    run_turn_bit c.loop-j.j c.args.word c.args.from (hash_key_of c.args.self.now) (quad_value c.loop-j.s) (quad_value c.row.result)
    (quad_value c.add_masked-s.result) _ c.loop-j-test.true c.row.ensures c.add_masked-s.ensures c.loop-j.invariant

pub returns : goal.returns
returns c =
    product_end (32 - c.loop-j.j) c.args.word (times_power (c.args.from + c.loop-j.j) (hash_key_of c.args.self.now)) (quad_value c.loop-j.s) _
    (omega arith) c.loop-j.invariant
