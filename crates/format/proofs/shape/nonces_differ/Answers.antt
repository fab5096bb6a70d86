use Rattle.format.proofs.Nonces.{nonces_differ}
use Rattle.format.proofs.shape.nonces_differ.Goals as goal

pub returns : goal.returns
returns c = nonces_differ
