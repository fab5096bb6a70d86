use Rattle.std.proofs.Common.{sym, arith}
use Rattle.std.proofs.lemmas.Bool.{both_ways, ltb-true}
use Rattle.header_front.proofs.Settling.{tail_settles}
use Rattle.header_front.proofs.settled.tail_settled.Goals as goal

pub returns-then-not-equal : goal.returns-then-not-equal
returns-then-not-equal c = λ id ps ks.
    tail_settles id ps ks c.args.bytes.now c.in_ok-content_type.content_type.now c.in_ok-content_type.more.now c.in_ok-content_type.ensures.value (λ t. absurd (both_ways _ (sym c.if-not-equal.ensures.value) t))

pub returns-then-frame_length-eq0 : goal.returns-then-frame_length-eq0
returns-then-frame_length-eq0 c = λ id ps ks.
    let f = c.in_ok-frame_length in
    tail_settles id ps ks c.args.bytes.now c.in_ok-content_type.content_type.now c.in_ok-content_type.more.now c.in_ok-content_type.ensures.value
    (λ t. (f.frame_length, (f.rest.now, (f.ensures.value, λ l. absurd (let p = ltb-true 0 f.frame_length l in let z = c.if-frame_length-eq0.true in omega arith)))))

pub returns : goal.returns
returns c = λ id ps ks.
    let f = c.in_ok-frame_length in
    tail_settles id ps ks c.args.bytes.now c.in_ok-content_type.content_type.now c.in_ok-content_type.more.now c.in_ok-content_type.ensures.value
    (λ t. (f.frame_length, (f.rest.now, (f.ensures.value, λ l. omega arith))))
