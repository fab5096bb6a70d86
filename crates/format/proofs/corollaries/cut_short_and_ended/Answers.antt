use Rattle.format.proofs.Changed.{cut_short_and_ended}
use Rattle.format.proofs.corollaries.cut_short_and_ended.Goals as goal

pub returns : goal.returns
returns c = cut_short_and_ended
