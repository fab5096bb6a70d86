use Rattle.format.proofs.FrameList.{message_in_frames}
use Rattle.format.proofs.corollaries.message_in_frames.Goals as goal

pub returns : goal.returns
returns c = message_in_frames
