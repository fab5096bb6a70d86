use Rattle.format.proofs.Sealing.{header_is_seen}
use Rattle.format.proofs.reading.header_is_seen.Goals as goal

pub returns : goal.returns
returns c = header_is_seen
