use Rattle.format.proofs.Changed.{exchanged}
use Rattle.format.proofs.corollaries.exchanged_never_opens.Goals as goal

pub returns : goal.returns
returns c = exchanged
