use Rattle.format.proofs.Accounted.{what_opens_was_sealed}
use Rattle.format.proofs.authenticity.what_opens_was_sealed.Goals as goal

pub returns : goal.returns
returns c = what_opens_was_sealed
