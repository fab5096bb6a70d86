use Rattle.std.proofs.Common.{length, ◌∙◌, inl, inr, ⊎_elim, arith}
use Rattle.std.proofs.lemmas.Bool.{cases_lt}
use Rattle.octets.proofs.Compared.{lt_more, lt_here, lt_end}
use Rattle.octets.proofs.compare.less.Goals as goal

pub returns-then-a-i : goal.returns-then-a-i
returns-then-a-i c = record { value = lt_here c.args.a.now c.args.b.now c.loop-i.i (omega arith) (omega arith) c.if-a-i.true ∙ c.loop-i.invariant }

pub loop-i-preserved : goal.loop-i-preserved
loop-i-preserved c = lt_more c.args.a.now c.args.b.now c.loop-i.i (omega arith) (omega arith) c.if-a-i.false ∙ c.loop-i.invariant

pub returns : goal.returns
returns c = record {
  value =
      lt_end c.args.a.now c.args.b.now c.loop-i.i (omega arith) (omega arith)
      (⊎_elim (λ h. inl (omega arith)) (λ h. inr (omega arith)) (cases_lt (length c.args.a.now) (length c.args.b.now)))
      ∙ c.loop-i.invariant;
}
