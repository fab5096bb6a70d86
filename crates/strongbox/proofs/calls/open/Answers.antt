-- Opening's answer and what it leaves, from the layer below.
use Rattle.std.proofs.Common.{◌≡◌, length, ap, ◌∙◌, arith}
use Rattle.opening.specs.Answer.{opening}
use Rattle.strongbox.specs.Answers.{left_by}
use Rattle.strongbox.proofs.Told.{left}
use Rattle.strongbox.proofs.calls.open.Goals as goal

pub returns : goal.returns
unfolding opening
returns c =
    let l : length c.open.new.out ≡ length c.args.out.now = omega arith in
    record {
      value = c.open.ensures.value;
      leaves = left c.open.result c.open.new.out (length c.args.out.now) l c.open.ensures.zeros ∙ ap (λ a. left_by a (length c.args.out.now)) c.open.ensures.value;
      sealed = c.open.ensures.sealed;
    }
