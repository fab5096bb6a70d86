use Rattle.std.proofs.lemmas.Result.{err_from_is_err_and}
use Rattle.std.proofs.lemmas.Bool.{eqb-true}
use Rattle.octets.specs.Bits.{pick}
use Rattle.header.specs.Models.{request_of}
use Rattle.header.proofs.Lengths.{some_cond}
use Rattle.header.proofs.Refusals.{refused_by_header, refused_by_text, numbers_positive}
use Rattle.header.proofs.checks.check.Goals as goal

pub returns-in_err-header : goal.returns-in_err-header
returns-in_err-header c =
    let p = err_from_is_err_and c.from_residual.result c.from_residual.ensures.1 in
    let k = eqb-true _ _ (some_cond _ _ _ c.in-Some.ensures.value).0 in
    rw (p.1, p.2) (record { value = refused_by_header (request_of c.args.request) _ k c.in_err-header.ensures.value (numbers_positive c.in_err-header.field-0.0); checked = tt })

pub returns-then-not-text_fits : goal.returns-then-not-text_fits
unfolding pick
returns-then-not-text_fits c =
    let k = eqb-true _ _ (some_cond _ _ _ c.in-Some.ensures.value).0 in
    record { value = refused_by_text (request_of c.args.request) _ k c.in_ok-header.ensures.value c.if-not-text_fits.ensures.value; checked = tt }

pub returns : goal.returns
unfolding pick
returns c =
    let k = some_cond _ _ _ c.in-Some.ensures.value in
    record {
      value = refused_by_text (request_of c.args.request) _ (eqb-true _ _ k.0) c.in_ok-header.ensures.value c.if-not-text_fits.ensures.value;
      checked = record { key = k.1; header = c.in_ok-header.ensures.checked };
    }
