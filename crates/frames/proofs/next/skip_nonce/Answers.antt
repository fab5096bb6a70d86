use Rattle.frames.proofs.Steps.{nonce_off}
use Rattle.frames.proofs.next.skip_nonce.Goals as goal

pub returns : goal.returns
returns c = nonce_off c.args.number c.args.bytes.now c.strip_prefix.result (rw c.frame_nonce.ensures.value at c.strip_prefix.ensures.cases)
