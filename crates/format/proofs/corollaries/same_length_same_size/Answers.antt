use Rattle.format.proofs.Shown.{same_length_same_size}
use Rattle.format.proofs.corollaries.same_length_same_size.Goals as goal

pub returns : goal.returns
returns c = same_length_same_size
