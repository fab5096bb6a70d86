use Rattle.gcm.proofs.Undo.{open_undoes_seal}
use Rattle.gcm.proofs.theorem.opening_undoes_sealing.Goals as goal

pub returns : goal.returns
returns c = open_undoes_seal
