use Rattle.opening.proofs.Joins.{frames_join}
use Rattle.opening.proofs.joined.frames_join.Goals as goal

pub returns : goal.returns
returns c = frames_join
