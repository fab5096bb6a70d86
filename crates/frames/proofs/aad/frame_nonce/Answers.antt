use Rattle.std.proofs.Common.{arith}
use Rattle.frames.proofs.Parts.{nonce_is}
use Rattle.frames.proofs.aad.frame_nonce.Goals as goal

pub returns : goal.returns
returns c = record { value = simp c.to_be_bytes.ensures (nonce_is c.args.number (omega arith)) }
