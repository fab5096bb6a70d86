use Rattle.std.proofs.Common.{[], arith}
use Rattle.std.proofs.lemmas.Bool.{eqb-true}
use Rattle.header.specs.Models.{request_with}
use Rattle.header.proofs.Lengths.{some_cond}
use Rattle.header.proofs.Refusals.{header_passes}
use Rattle.header.proofs.asked.Header.checked.Goals as goal

pub returns-clause-value : goal.returns-clause-value
returns-clause-value c =
    header_passes (request_with [] c.args.asked []) _ _ (eqb-true _ _ (some_cond _ _ _ c.in-Some.ensures.value).0) (omega arith) (omega arith) c.in-Some-checked.ensures.value c.in-Some-checked-2.ensures.value
