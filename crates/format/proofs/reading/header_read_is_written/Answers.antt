use Rattle.format.proofs.Headers.{read_is_written}
use Rattle.format.proofs.reading.header_read_is_written.Goals as goal

pub returns : goal.returns
returns c = read_is_written
