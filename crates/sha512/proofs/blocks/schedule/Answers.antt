use Rattle.std.proofs.Common.{◌≡◌, ℕ, suc, ◌+◌, ◌-◌, ◌<◌, ◌≤◌, length, take, sym, ap, ◌∙◌, arith, length-set}
use Rattle.std.proofs.lemmas.List.{take_all}
use Rattle.octets.specs.Bytes.{reversed}
use Rattle.octets.proofs.Lists.{reversed-reversed}
use Rattle.sha512.specs.Sha512.{extend_words}
use Rattle.sha512.proofs.Schedule.{extend_more}
use Rattle.sha512.proofs.blocks.schedule.Goals as goal

pub loop-t-preserved : goal.loop-t-preserved
loop-t-preserved c =
    let l : c.loop-t.t < length c.loop-t.w = omega arith in
    let e : 80 - c.loop-t.t ≡ suc (80 - (c.loop-t.t + 1)) = omega arith in (
      length-set c.loop-t.w c.loop-t.t _ ∙ c.loop-t.invariant.0,
      sym (ap (λ (n : ℕ). extend_words n (reversed (take c.loop-t.t c.loop-t.w))) e
          ∙ extend_more (80 - (c.loop-t.t + 1)) c.loop-t.t c.loop-t.w (omega arith) l c.small_sigma1.ensures c.small_sigma0.ensures)
          ∙ c.loop-t.invariant.1,
    )

pub returns : goal.returns
unfolding extend_words
returns c =
    let e : c.loop-t.t ≡ 80 = omega arith in
    let n : length c.loop-t.w ≤ 80 = omega arith in
    sym (ap reversed
    (sym c.loop-t.invariant.1 ∙ ap (λ (n : ℕ). extend_words (80 - n) (reversed (take n c.loop-t.w))) e)
    ∙ reversed-reversed (take 80 c.loop-t.w) ∙ take_all 80 c.loop-t.w n)
