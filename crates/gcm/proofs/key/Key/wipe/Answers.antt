use Rattle.octets.specs.Bytes.{repeat}
use Rattle.gcm.proofs.key.Key.wipe.Goals as goal

pub returns : goal.returns
unfolding repeat
returns c = record { value = c.new.ensures.value }
