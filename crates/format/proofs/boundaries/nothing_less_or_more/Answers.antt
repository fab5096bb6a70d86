use Rattle.format.proofs.Ends.{nothing_less_or_more}
use Rattle.format.proofs.boundaries.nothing_less_or_more.Goals as goal

pub returns : goal.returns
returns c = nothing_less_or_more
