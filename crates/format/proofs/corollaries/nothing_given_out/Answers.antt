use Rattle.format.proofs.Shown.{nothing_given_out}
use Rattle.format.proofs.corollaries.nothing_given_out.Goals as goal

pub returns : goal.returns
returns c = nothing_given_out
