use Rattle.std.proofs.Common.{◌∙◌, length-set}
use Rattle.cli.proofs.Digits.{byte_more, no_high_digit, no_low_digit, all_read, as_32}
use Rattle.cli.proofs.hex.unhex32.Goals as goal

pub returns-in_err-high : goal.returns-in_err-high
returns-in_err-high c =
    record {
      value =
          c.from_residual.ensures
          ∙ no_high_digit c.args.digits.now _ c.loop-i.i c.if-digits-ne64.false c.loop-i-test.true c.in_err-high.ensures
          ∙ c.loop-i.invariant.1
          ∙ as_32 c.args.digits.now c.if-digits-ne64.false;
    }

pub returns-in_err-low : goal.returns-in_err-low
returns-in_err-low c =
    record {
      value =
          c.from_residual-in_err-low.ensures
          ∙ no_low_digit c.args.digits.now _ c.loop-i.i _ c.if-digits-ne64.false c.loop-i-test.true c.in_ok-high.ensures c.in_err-low.ensures
          ∙ c.loop-i.invariant.1
          ∙ as_32 c.args.digits.now c.if-digits-ne64.false;
    }

pub loop-i-preserved : goal.loop-i-preserved
loop-i-preserved c = (
  simp length-set c.loop-i.invariant.0,
  byte_more c.args.digits.now c.loop-i.bytes c.loop-i.i _ _ c.if-digits-ne64.false c.loop-i.invariant.0 c.loop-i-test.true c.in_ok-high.ensures c.in_ok-low.ensures
      ∙ c.loop-i.invariant.1,
)

pub returns : goal.returns
returns c =
    record {
      value =
          all_read c.args.digits.now c.loop-i.bytes c.loop-i.i c.if-digits-ne64.false c.loop-i.invariant.0 c.loop-i-test.false
          ∙ c.loop-i.invariant.1
          ∙ as_32 c.args.digits.now c.if-digits-ne64.false;
    }
