use Rattle.format.proofs.Ends.{no_beginning_opens}
use Rattle.format.proofs.boundaries.no_beginning_opens.Goals as goal

pub returns : goal.returns
returns c = no_beginning_opens
