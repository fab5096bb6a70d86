use Rattle.std.proofs.Common.{ap, length, inl, inr, arith}
use Rattle.gcm.specs.Key.{key_of}
use Rattle.frames.specs.Kind.{is_final}
use Rattle.frames.specs.Next.{frame_of}
use Rattle.opening.proofs.Unlocking.{all_bytes_of}
use Rattle.opening.proofs.Steps.{text_found, text_lacks}
use Rattle.opening.proofs.FrameByFrame.{after_final, no_frame, rest_fits, number_fits, out_short, wrong_tag, final, regular, part_long}
use Rattle.opening.proofs.state.Opener.step.Goals as goal
use Rattle.opening.proofs.state.Opener.step.Goals.{then-at_end-via-then-at_end, then-at_end-via-else-at_end+then-bytes-self}

pub returns-then-self : goal.returns-then-self
returns-then-self c = record { value = after_final c.args.self.now c.args.bytes.now c.args.at_end c.args.out.now c.if-self.true c.if-is_empty.ensures }

pub returns-then-at_end : goal.returns-then-at_end
returns-then-at_end c = record {
  value = no_frame c.args.self.now c.args.bytes.now c.args.at_end c.args.out.now c.if-self.false c.in_default.ensures.value
      (elim c.then-at_end.branch [ then-at_end-via-then-at_end w ↦ inl w.if-at_end.true | then-at_end-via-else-at_end+then-bytes-self w ↦ inr (omega (arith, w.if-bytes-self.true)) ]);
}

pub returns-then-out-len : goal.returns-then-out-len
returns-then-out-len c = record { value = out_short c.args.self.now c.args.bytes.now c.args.at_end c.args.out.now (frame_of c.in-Some.frame) c.if-self.false c.in-Some.ensures.value c.if-out-len.true }

pub returns-in_default-open_frame : goal.returns-in_default-open_frame
returns-in_default-open_frame c = record { value = wrong_tag c.args.self.now c.args.bytes.now c.args.at_end c.args.out.now (frame_of c.in-Some.frame) c.if-self.false c.in-Some.ensures.value (text_lacks (key_of c.args.self.now.unlocked.cipher.key) c.args.self.now.unlocked.cipher.id c.args.self.now.number (frame_of c.in-Some.frame) _ c.open_frame.new.out c.in_default-open_frame.ensures.value (part_long c.args.out.now (length c.in-Some.frame.ciphertext.now) c.if-out-len.false)) }

pub overflow_sub-text : goal.overflow_sub-text
overflow_sub-text c = rest_fits c.args.self.now c.args.bytes.now c.args.at_end c.args.out.now (frame_of c.in-Some.frame) c.if-self.false c.in-Some.ensures.value

pub returns-in-Final : goal.returns-in-Final
returns-in-Final c = record { value = final c.args.self.now c.args.bytes.now c.args.at_end c.args.out.now (frame_of c.in-Some.frame) c.if-self.false c.in-Some.ensures.value (all_bytes_of c.args.bytes.now (λ i. omega (arith, c.type_inv.bytes i))) c.open_frame.new.out (text_found (key_of c.args.self.now.unlocked.cipher.key) c.args.self.now.unlocked.cipher.id c.args.self.now.number (frame_of c.in-Some.frame) _ c.open_frame.new.out c.in-Ok.ensures.value (part_long c.args.out.now (length c.in-Some.frame.ciphertext.now) c.if-out-len.false)) (omega arith) c.if-out-len.false (ap is_final c.in-Final.is) }

pub overflow_add-self-in-Regular : goal.overflow_add-self-in-Regular
overflow_add-self-in-Regular c = omega (arith, number_fits c.args.self.now c.args.bytes.now c.args.at_end c.args.out.now (frame_of c.in-Some.frame) c.if-self.false c.in-Some.ensures.value (ap is_final c.in-Regular.is))

pub returns-in-Regular : goal.returns-in-Regular
returns-in-Regular c = record { value = regular c.args.self.now c.args.bytes.now c.args.at_end c.args.out.now (frame_of c.in-Some.frame) c.if-self.false c.in-Some.ensures.value (all_bytes_of c.args.bytes.now (λ i. omega (arith, c.type_inv.bytes i))) c.open_frame.new.out (text_found (key_of c.args.self.now.unlocked.cipher.key) c.args.self.now.unlocked.cipher.id c.args.self.now.number (frame_of c.in-Some.frame) _ c.open_frame.new.out c.in-Ok.ensures.value (part_long c.args.out.now (length c.in-Some.frame.ciphertext.now) c.if-out-len.false)) (omega arith) c.if-out-len.false (ap is_final c.in-Regular.is) }
