use Rattle.std.proofs.Common.{length}
use Rattle.opening.proofs.Steps.{Going}
use Rattle.opening.proofs.walk.open_frames.Given as goal

abbrev pub invariant-frames : goal.invariant-frames
invariant-frames l = Going l.unlocked l.bytes l.out l.rest l.number l.at

abbrev pub decreases-frames : goal.decreases-frames
decreases-frames l = length l.rest
