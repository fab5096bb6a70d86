use Rattle.std.proofs.Common.{◌≡◌, sym, refl, ap, ◌∙◌, arith, length-set}
use Rattle.ghash.specs.Element.{value}
use Rattle.ghash.specs.Steps.{times_x, times_power}
use Rattle.ghash.specs.Rows.{four_words}
use Rattle.ghash.proofs.Runs.{times_power_none, times_power_more}
use Rattle.ghash.proofs.Quads.{row_more}
use Rattle.ghash.proofs.table.Table.new.Goals as goal

pub loop-i-init : goal.loop-i-init
loop-i-init c = (sym (times_power_none (value c.args.h)), λ k h. omega arith, refl, refl, refl, refl)

pub loop-i-preserved : goal.loop-i-preserved
loop-i-preserved c =
    let h = value c.args.h in
    let inv = c.loop-i.invariant in
    let words : four_words c.from-q.result.a c.from-q.result.b c.from-q.result.c c.from-q.result.d ≡ value c.loop-i.v = omega (arith, c.from-q.ensures) in (
      c.times_x-v.ensures ∙ (ap times_x inv.0 ∙ times_power_more c.loop-i.i h),
      row_more c.loop-i.a c.loop-i.b c.loop-i.c c.loop-i.d c.loop-i.i c.from-q.result.a c.from-q.result.b c.from-q.result.c
          c.from-q.result.d (λ k. times_power k h) (omega arith) (omega arith) (omega arith) (omega arith) inv.1 (words ∙ inv.0),
      length-set _ _ _ ∙ inv.2,
      length-set _ _ _ ∙ inv.3,
      length-set _ _ _ ∙ inv.4,
      length-set _ _ _ ∙ inv.5,
    )
