use Rattle.std.proofs.Common.{length, arith, ap, ◌∙◌, subst, rules}
use Rattle.std.proofs.lemmas.Result.{err_from_is_err_and}
use Rattle.octets.specs.Writing.{Writes}
use Rattle.octets.proofs.Writing.{written_whole}
use Rattle.format.specs.Header.{header_bytes}
use Rattle.header.proofs.Refusals.{numbers_positive}
use Rattle.header.proofs.Writes.{not_written_refused, not_written_short, is_written}
use Rattle.header.proofs.write.write_header.Goals as goal

pub returns-in_err-asked-clause-value : goal.returns-in_err-asked-clause-value
returns-in_err-asked-clause-value c =
    let p = err_from_is_err_and c.from_residual.result c.from_residual.ensures.1 in
    rw (p.1, p.2) (not_written_refused c.args.header c.args.commitment.now (length c.args.out.now) _ c.in_err-asked.ensures.value (numbers_positive c.in_err-asked.field-0.0))

pub returns-then-out-len-clause-value : goal.returns-then-out-len-clause-value
returns-then-out-len-clause-value c =
    let long = c.len-len.ensures.value c.args.commitment.now (omega arith) ∙ ap (λ h. length (header_bytes h)) (c.in_ok-asked.ensures.asked c.args.commitment.now) in
    not_written_short c.args.header c.args.commitment.now (length c.args.out.now) c.in_ok-asked.ensures.value (omega arith)

pub returns-clause-value : goal.returns-clause-value
returns-clause-value c =
    let long = c.len-len.ensures.value c.args.commitment.now (omega arith) ∙ ap (λ h. length (header_bytes h)) (c.in_ok-asked.ensures.asked c.args.commitment.now) in
    is_written c.args.header c.args.commitment.now (length c.args.out.now) c.in_ok-asked.ensures.value (omega arith)

pub returns-clause-written : goal.returns-clause-written
returns-clause-written c =
    let same = ap header_bytes (c.in_ok-asked.ensures.asked c.args.commitment.now) in
    let writes = subst (λ l. Writes c.new-to.result l c.put.result c.put.new.to) same c.put.ensures.value in
    let long = c.len-len.ensures.value c.args.commitment.now (omega arith) ∙ ap length same in
    written_whole _ _ _ _ _ _ c.put.result long c.if-out-len.false c.new-to.ensures.value writes (search rules)
