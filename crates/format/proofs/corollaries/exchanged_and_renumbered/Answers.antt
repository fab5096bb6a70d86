use Rattle.format.proofs.Changed.{exchanged_and_renumbered}
use Rattle.format.proofs.corollaries.exchanged_and_renumbered.Goals as goal

pub returns : goal.returns
returns c = exchanged_and_renumbered
