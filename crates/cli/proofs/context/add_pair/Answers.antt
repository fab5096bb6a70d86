use Rattle.std.proofs.Common.{◌≡◌, length, map, Some, vec_items, true, false, rules, sym, ap, ◌∙◌}
use Rattle.std.proofs.lemmas.Iterator.{YieldsList-from_slice, IsFirst-from_position}
use Rattle.octets.specs.Bytes.{bytes_lt}
use Rattle.cli.specs.declared.context.Pair.{Pair}
use Rattle.cli.specs.Context.{pair_of, with_pair}
use Rattle.cli.proofs.Pairs.{IsPlace, first_or_end, named, named_twice, put_there, rising_with}
use Rattle.cli.proofs.context.add_pair.Goals as goal
use Rattle.cli.proofs.context.add_pair.Goals.{After-unwrap_or-place, else-place-len-via-then-place-len+else-eq, else-place-len-via-else-place-len}

placed : (c : After-unwrap_or-place) → IsPlace c.args.pair.name.now (vec_items c.args.pairs.now) c.unwrap_or-place.result
placed c =
    let n = c.args.pair.name.now in
    let l : c.len.result ≡ length c.deref.result.now = search rules in
    rw (c.unwrap_or-place.ensures, l, sym c.deref.ensures.value) (first_or_end n c.deref.result.now c.position.result
    (IsFirst-from_position _ _ c.position.result (λ (q : Pair). bytes_lt q.name.now n ≡ false) (λ (q : Pair). bytes_lt q.name.now n ≡ true) c.position.ensures.ran (YieldsList-from_slice c.deref.result.now c.iter.ensures.rest)
    (λ x q k. search rules) (λ x q k. (search rules, search rules))))

pub returns-then-eq : goal.returns-then-eq
returns-then-eq c =
    let qs = vec_items c.args.pairs.now in
    let e = named qs c.unwrap_or-place.result _ _ _ c.index.ensures c.if-eq.ensures in
    let twice = named_twice c.args.pair qs c.unwrap_or-place.result c.index.result.now (placed (goal.at.returns-then-eq c).After-unwrap_or-place) (search rules) e in
    search (rules, twice)

pub returns : goal.returns
returns c =
    let qs = vec_items c.args.pairs.now in
    let put = put_there c.args.pair qs c.unwrap_or-place.result in
    let at = placed (goal.at.returns c).After-unwrap_or-place in
    let made : with_pair (pair_of c.args.pair) (map pair_of qs) ≡ Some (map pair_of (vec_items c.insert.new.self)) =
    elim c.else-place-len.branch [
      | else-place-len-via-then-place-len+else-eq w ↦ put w.index.result.now at (λ _. named qs c.unwrap_or-place.result _ _ _ w.index.ensures w.if-eq.ensures)
      | else-place-len-via-else-place-len w ↦ put c.args.pair at (λ h. absurd (search (rules, h)))
    ]
    ∙ ap (λ ps. Some (map pair_of ps)) (sym c.in_ok-insert.ensures.items) in
    record { value = (made, rising_with (pair_of c.args.pair) (map pair_of qs) (map pair_of (vec_items c.insert.new.self)) made) }
