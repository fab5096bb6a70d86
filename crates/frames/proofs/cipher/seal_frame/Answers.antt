use Rattle.std.proofs.Common.{take, length, ap, ◌∙◌, arith, rules}
use Rattle.octets.proofs.Splice.{spliced_all}
use Rattle.gcm.specs.Key.{key_of}
use Rattle.octets.proofs.Writing.{has_room, lender_holds}
use Rattle.frames.proofs.Parts.{length_front, frame_in_parts}
use Rattle.frames.proofs.cipher.seal_frame.Goals as goal

pub unwrap-requires : goal.unwrap-requires
unwrap-requires c =
    let l = length_front c.args.kind c.args.number (length c.args.text.now) in
    has_room _ _ _ _ _ c.new.ensures.value c.write_front.ensures (omega arith)

pub returns-clause-value : goal.returns-clause-value
returns-clause-value c =
    let l = length_front c.args.kind c.args.number (length c.args.text.now) in
    let w = rw c.unwrap.ensures at c.write_front.ensures in
    let s = rw c.unwrap-tag.ensures at c.seal.ensures.value in
    frame_in_parts c.args.kind (key_of c.args.key.now) c.args.id.now c.args.text.now _ _ _ _ _ _ _ c.args.number c.frame_nonce.ensures.value
    (ap (λ k. take k c.frame_aad-aad.result) c.aad_len.ensures.value ∙ c.frame_aad-aad.ensures.value) s (omega arith) (lender_holds _ _ _ _ _ c.new.ensures.value w (search rules) ∙ spliced_all _ _ (omega arith)) c.copy_from_slice.ensures.after
