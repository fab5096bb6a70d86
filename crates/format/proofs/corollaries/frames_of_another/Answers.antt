use Rattle.format.proofs.Changed.{frames_of_another}
use Rattle.format.proofs.corollaries.frames_of_another.Goals as goal

pub returns : goal.returns
returns c = frames_of_another
