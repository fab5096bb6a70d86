use Rattle.format.proofs.Ends.{going_on_is_refused}
use Rattle.format.proofs.boundaries.going_on_is_refused.Goals as goal

pub returns : goal.returns
returns c = going_on_is_refused
