use Rattle.format.proofs.Sealing.{sealed_opens}
use Rattle.format.proofs.round_trip.sealed_opens.Goals as goal

pub returns : goal.returns
returns c = sealed_opens
