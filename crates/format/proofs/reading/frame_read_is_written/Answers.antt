use Rattle.format.proofs.Frames.{frame_is_written}
use Rattle.format.proofs.reading.frame_read_is_written.Goals as goal

pub returns : goal.returns
returns c = frame_is_written
