use Rattle.format.proofs.Lengths.{length_is_known}
use Rattle.format.proofs.shape.length_is_known.Goals as goal

pub returns : goal.returns
returns c = length_is_known
