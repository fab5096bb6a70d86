use Rattle.std.proofs.Common.{◌≡◌, Some, None, ◌∙◌, arith}
use Rattle.cli.specs.declared.number.NumberError.TheVariants.{NoDigits}
use Rattle.std.proofs.lemmas.Result.{err_from_is_err_and}
use Rattle.cli.proofs.Decimals.{read_digit_more, read_digit_too_many, read_no_digit, digits_end}
use Rattle.cli.proofs.number.decimal.Goals as goal

pub returns-in_err-digit : goal.returns-in_err-digit
returns-in_err-digit c =
    let e : None ≡ c.decimal_digit.result = grind (arith, c.in_err-digit.ensures.value) in
    let u : c.in_err-digit.field-0.0 ≡ NoDigits = grind (arith, c.in_err-digit.ensures.value) in
    let p = err_from_is_err_and c.from_residual.result c.from_residual.ensures.1 in
    rw (p.1, p.2, u) (read_no_digit c.args.high c.loop-b.n c.args.digits.now c.loop-b.b-index c.loop-b-test.true (e ∙ c.decimal_digit.ensures) ∙ c.loop-b.invariant.1)

pub returns-then-n-from : goal.returns-then-n-from
returns-then-n-from c =
    let e : Some c.from.result ≡ c.decimal_digit.result = rw c.from.ensures (grind (arith, c.in_ok-digit.ensures.value)) in
    read_digit_too_many c.args.high c.loop-b.n c.from.result c.args.digits.now c.loop-b.b-index c.loop-b-test.true (e ∙ c.decimal_digit.ensures) (omega arith) ∙ c.loop-b.invariant.1

pub loop-b-preserved : goal.loop-b-preserved
loop-b-preserved c =
    let e : Some c.from.result ≡ c.decimal_digit.result = rw c.from.ensures (grind (arith, c.in_ok-digit.ensures.value)) in (
      omega arith,
      read_digit_more c.args.high c.loop-b.n c.from.result c.args.digits.now c.loop-b.b-index c.loop-b-test.true (e ∙ c.decimal_digit.ensures) (omega arith)
          ∙ c.loop-b.invariant.1,
    )

pub returns : goal.returns
returns c = digits_end c.args.high c.loop-b.n c.args.digits.now c.loop-b.b-index c.loop-b-test.false ∙ c.loop-b.invariant.1
