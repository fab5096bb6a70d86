use Rattle.sealing.proofs.Joining.{calls_make_the_message}
use Rattle.sealing.proofs.joined.calls_make_the_message.Goals as goal

pub returns : goal.returns
returns c = calls_make_the_message
