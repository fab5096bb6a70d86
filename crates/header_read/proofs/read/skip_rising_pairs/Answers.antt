use Rattle.std.proofs.Common.{Some, ◌≡◌, ◌+◌, ◌-◌, sym, ap, ◌∙◌, arith}
use Rattle.header_read.specs.Cuts.{rests}
use Rattle.header_read.proofs.Walk.{walk, walk_turn, walk_falls, walk_short, walk_end, walk_all, last_name, follows}
use Rattle.header_read.proofs.read.skip_rising_pairs.Goals as goal
use Rattle.header_read.proofs.read.skip_rising_pairs.Goals.{in-Some+else-not-less, in_default}

pub returns-in_err-pair : goal.returns-in_err-pair
returns-in_err-pair c = ap rests c.from_residual.ensures ∙ walk_short (last_name c.loop.last) _ _ (omega arith) c.in_err-pair.ensures.value ∙ c.loop.invariant ∙ walk_all _ _

pub returns-then-not-less : goal.returns-then-not-less
returns-then-not-less c =
    walk_falls (last_name c.loop.last) _ _ _ (omega arith) c.in_ok-pair.ensures.value
    (ap (λ o. follows (last_name o) c.in_ok-pair.pair.name.now) c.in-Some.is ∙ sym c.if-not-less.ensures.value)
    ∙ c.loop.invariant ∙ walk_all _ _

pub loop-preserved : goal.loop-preserved
loop-preserved c =
    let m : c.args.count - (c.loop.counter + 1) ≡ (c.args.count - c.loop.counter) - 1 = omega arith in
    ap (λ k. walk (last_name (Some c.in_ok-pair.pair.name)) k c.in_ok-pair.after.now) m
    ∙ walk_turn (last_name c.loop.last) _ _ _ (omega arith) c.in_ok-pair.ensures.value
    (elim c.match-last.branch [
      | in-Some+else-not-less w ↦ ap (λ o. follows (last_name o) c.in_ok-pair.pair.name.now) w.in-Some.is ∙ sym w.if-not-less.ensures.value
      | in_default w ↦ ap (λ o. follows (last_name o) c.in_ok-pair.pair.name.now) w.in_default.is
    ])
    ∙ c.loop.invariant

pub returns : goal.returns
returns c = walk_end (last_name c.loop.last) _ _ (omega arith) ∙ c.loop.invariant ∙ walk_all _ _
