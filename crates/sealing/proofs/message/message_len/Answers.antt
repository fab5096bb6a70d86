use Rattle.std.proofs.lemmas.Result.{err_from_is_err_and}
use Rattle.octets.specs.Bits.{pick}
use Rattle.header.proofs.Refusals.{numbers_positive}
use Rattle.sealing.proofs.Answered.{length_refused, length_by_text}
use Rattle.sealing.proofs.message.message_len.Goals as goal

pub returns-in_err-checked : goal.returns-in_err-checked
returns-in_err-checked c =
    let p = err_from_is_err_and c.from_residual.result c.from_residual.ensures.1 in
    rw (p.1, p.2) (record { value = length_refused c.args.header c.args.text_len _ c.in_err-checked.ensures.value (numbers_positive c.in_err-checked.field-0.0); told = tt })

pub returns-then-not-text_fits : goal.returns-then-not-text_fits
unfolding pick
returns-then-not-text_fits c = record { value = length_by_text c.args.header c.args.text_len _ c.in_ok-checked.ensures.value c.if-not-text_fits.ensures.value; told = tt }

pub returns : goal.returns
unfolding pick
returns c = record {
  value = length_by_text c.args.header c.args.text_len _ c.in_ok-checked.ensures.value c.if-not-text_fits.ensures.value;
  told = c.checked_len.ensures;
}
