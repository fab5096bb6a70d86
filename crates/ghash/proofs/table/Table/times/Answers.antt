use Rattle.std.proofs.Common.{ap, ◌∙◌, ap₂, arith}
use Rattle.ghash.specs.Field.{product_steps}
use Rattle.ghash.specs.Steps.{times_power}
use Rattle.ghash.specs.Table.{hash_key_of}
use Rattle.ghash.proofs.Runs.{product_by_words}
use Rattle.ghash.proofs.table.Table.times.Goals as goal

pub returns : goal.returns
returns c =
    let h = hash_key_of c.args.self.now in
    let q = c.from-q.ensures in
    record {
      value =
          c.from.ensures
          ∙ (c.add_rows.ensures
          ∙ (ap₂ (λ k m. product_steps 32 k (times_power 96 h) m) q.3
          (c.add_rows-sum_c.ensures
          ∙ ap₂ (λ k m. product_steps 32 k (times_power 64 h) m) q.2
          (c.add_rows-sum_b.ensures
          ∙ ap₂ (λ k m. product_steps 32 k (times_power 32 h) m) q.1 (c.add_rows-sum_a.ensures ∙ ap (λ k. product_steps 32 k (times_power 0 h) 0) q.0)))
          ∙ product_by_words c.args.x.hi c.args.x.lo h (omega arith) (omega arith)));
    }
