use Rattle.std.proofs.Common.{ap, ◌∙◌}
use Rattle.std.proofs.Common.{take}
use Rattle.gcm.specs.Key.{key_of}
use Rattle.frames.proofs.Parts.{opens_frame}
use Rattle.frames.proofs.cipher.open_frame.Goals as goal

pub returns : goal.returns
returns c = record {
  value =
      opens_frame (key_of c.args.key.now) c.args.id.now _ _ c.args.frame.ciphertext.now c.args.frame.tag c.args.frame.rest.now _ _ c.args.number _ _ c.frame_nonce-nonce.ensures.value
      (ap (λ k. take k c.frame_aad-aad.result) c.aad_len.ensures.value ∙ c.frame_aad-aad.ensures.value) c.open.ensures.value;
}
