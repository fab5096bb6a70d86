use Rattle.format.proofs.Changed.{cut_short}
use Rattle.format.proofs.corollaries.cut_short_never_opens.Goals as goal

pub returns : goal.returns
returns c = cut_short
