use Rattle.std.proofs.Common.{sym}
use Rattle.std.proofs.lemmas.Bool.{both_ways}
use Rattle.std.proofs.lemmas.Option.{IfSome_then}
use Rattle.header_front.proofs.Settling.{header_settles}
use Rattle.header_front.proofs.settled.settled.Goals as goal

pub returns-then-not-equal : goal.returns-then-not-equal
returns-then-not-equal c = header_settles c.args.bytes.now c.in_ok-start.start.now c.in_ok-start.more.now c.in_ok-start.ensures.value (λ t. absurd (both_ways _ (sym c.if-not-equal.ensures.value) t))

pub returns : goal.returns
returns c =
    let i = c.in_ok-context in
    let f = c.in_ok-keys in
    IfSome_then c.data_keys_settled.result c.data_keys_settled.ensures (λ u s.
    header_settles c.args.bytes.now c.in_ok-start.start.now c.in_ok-start.more.now c.in_ok-start.ensures.value
    (λ _. (i.field-0-0.now, (i.context.now, (i.ensures.value, (f.field-0-0.now, (f.keys.now, (f.ensures.value, λ ps. s i.field-0-0.now ps))))))))
