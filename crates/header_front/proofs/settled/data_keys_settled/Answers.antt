use Rattle.std.proofs.Common.{sym, ◌∙◌, arith}
use Rattle.std.proofs.lemmas.Bool.{ltb-true}
use Rattle.std.proofs.lemmas.Option.{IfSome_then}
use Rattle.octets.proofs.Cuts.{and_then_some}
use Rattle.header_read.specs.Parts.{data_keys_in}
use Rattle.header_read.proofs.Listing.{data_keys_made, data_keys_read}
use Rattle.opening.proofs.Unlocking.{all_bytes_of}
use Rattle.header_front.proofs.Settling.{data_keys_settle}
use Rattle.header_front.proofs.settled.data_keys_settled.Goals as goal

pub returns-then-count-eq0 : goal.returns-then-count-eq0
returns-then-count-eq0 c = λ id ps.
    let n = c.in_ok-count in
    data_keys_settle id ps c.args.bytes.now n.count n.keys.now (all_bytes_of c.args.bytes.now (λ i. omega (arith, c.type_inv.bytes i))) n.ensures.value
    (λ l. absurd (let p = ltb-true 0 n.count l in let z = c.if-count-eq0.true in omega arith))

pub returns : goal.returns
returns c =
    let n = c.in_ok-count in
    let k = c.in_ok-rest in
    let ks = data_keys_in k.field-0-0 in
    IfSome_then c.tail_settled.result c.tail_settled.ensures (λ u s id ps.
    data_keys_settle id ps c.args.bytes.now n.count n.keys.now (all_bytes_of c.args.bytes.now (λ i. omega (arith, c.type_inv.bytes i))) n.ensures.value
    (λ l. (ks, (k.rest.now, (and_then_some _ _ data_keys_made k.ensures.value ∙ sym (data_keys_read n.count n.keys.now), s id ps ks)))))
