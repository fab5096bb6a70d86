use Rattle.format.proofs.Sealing.{other_key}
use Rattle.format.proofs.round_trip.other_key_is_refused.Goals as goal

pub returns : goal.returns
returns c = other_key
