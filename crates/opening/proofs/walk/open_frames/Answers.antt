use Rattle.std.proofs.Common.{ap, ◌+◌, ◌-◌, ◌≤◌, [], length, take, sym, ◌∙◌, arith}
use Rattle.octets.proofs.Bits.{pick_true, pick_false}
use Rattle.gcm.specs.Key.{key_of}
use Rattle.frames.specs.Kind.{is_final}
use Rattle.frames.specs.Next.{frame_of}
use Rattle.opening.proofs.Steps.{step_none, step_wrong, text_found, text_lacks, taken, fits, part_long, going_more, going_final}
use Rattle.opening.proofs.walk.open_frames.Goals as goal

pub slice_bounds-open_frame-end : goal.slice_bounds-open_frame-end
slice_bounds-open_frame-end c =
    let h : c.frames.at + length c.in-Some.frame.ciphertext.now ≤ length c.frames.out = fits c.args.unlocked.now c.args.bytes.now c.frames.out c.frames.rest.now [] c.frames.number c.frames.at (frame_of c.in-Some.frame) c.frames.invariant c.in-Some.ensures.value in
    h

pub returns-then-is_empty : goal.returns-then-is_empty
returns-then-is_empty c = record {
  value = λ h m.
      sym (pick_true _ _ _ (sym c.if-is_empty.ensures))
      ∙ going_final c.args.unlocked.now c.args.bytes.now c.frames.out c.frames.rest.now c.open_frame.new.out c.frames.number c.frames.at (frame_of c.in-Some.frame) c.frames.invariant c.in-Some.ensures.value (c.frames.at + length c.in-Some.frame.ciphertext.now - c.frames.at) (c.frames.at + length c.in-Some.frame.ciphertext.now)
      (text_found (key_of c.args.unlocked.now.cipher.key) c.args.unlocked.now.cipher.id c.frames.number (frame_of c.in-Some.frame) _ c.open_frame.new.out c.in-Ok.ensures.value (part_long c.args.unlocked.now c.args.bytes.now c.frames.out c.frames.rest.now [] c.frames.number c.frames.at (frame_of c.in-Some.frame) c.frames.invariant c.in-Some.ensures.value))
      (ap is_final c.in-Final.is) (omega arith) h m;
  within = omega (arith, fits c.args.unlocked.now c.args.bytes.now c.frames.out c.frames.rest.now [] c.frames.number c.frames.at (frame_of c.in-Some.frame) c.frames.invariant c.in-Some.ensures.value);
}

pub overflow_add-number : goal.overflow_add-number
overflow_add-number c = omega (arith, (taken c.args.unlocked.now c.args.bytes.now c.frames.out c.frames.rest.now [] c.frames.number c.frames.at (frame_of c.in-Some.frame) c.frames.invariant c.in-Some.ensures.value).below (ap is_final c.in-Regular.is))

pub frames-smaller : goal.frames-smaller
frames-smaller c = omega (arith, (taken c.args.unlocked.now c.args.bytes.now c.frames.out c.frames.rest.now [] c.frames.number c.frames.at (frame_of c.in-Some.frame) c.frames.invariant c.in-Some.ensures.value).total)

pub frames-preserved : goal.frames-preserved
frames-preserved c =
    going_more c.args.unlocked.now c.args.bytes.now c.frames.out c.frames.rest.now c.open_frame.new.out c.frames.number c.frames.at (frame_of c.in-Some.frame) c.frames.invariant c.in-Some.ensures.value _ _
    (text_found (key_of c.args.unlocked.now.cipher.key) c.args.unlocked.now.cipher.id c.frames.number (frame_of c.in-Some.frame) _ c.open_frame.new.out c.in-Ok.ensures.value (part_long c.args.unlocked.now c.args.bytes.now c.frames.out c.frames.rest.now [] c.frames.number c.frames.at (frame_of c.in-Some.frame) c.frames.invariant c.in-Some.ensures.value))
    (ap is_final c.in-Regular.is) (omega arith) (omega arith) (omega arith)

pub returns-in_default : goal.returns-in_default
returns-in_default c = record {
  value = λ h m. step_none c.args.unlocked.now h m c.frames.number (take c.frames.at c.frames.out) c.frames.rest.now c.in_default.ensures.value ∙ c.frames.invariant.goes h m;
  within = omega arith;
}

pub returns-in_default-open_frame : goal.returns-in_default-open_frame
returns-in_default-open_frame c = record {
  value = λ h m.
      step_wrong c.args.unlocked.now h m c.frames.number (take c.frames.at c.frames.out) c.frames.rest.now (frame_of c.in-Some.frame) c.in-Some.ensures.value
      (text_lacks (key_of c.args.unlocked.now.cipher.key) c.args.unlocked.now.cipher.id c.frames.number (frame_of c.in-Some.frame) _ c.open_frame.new.out c.in_default-open_frame.ensures.value (part_long c.args.unlocked.now c.args.bytes.now c.frames.out c.frames.rest.now [] c.frames.number c.frames.at (frame_of c.in-Some.frame) c.frames.invariant c.in-Some.ensures.value))
      ∙ c.frames.invariant.goes h m;
  within = omega arith;
}

pub returns-else-is_empty : goal.returns-else-is_empty
returns-else-is_empty c = record {
  value = λ h m.
      sym (pick_false _ _ _ (sym c.if-is_empty.ensures))
      ∙ going_final c.args.unlocked.now c.args.bytes.now c.frames.out c.frames.rest.now c.open_frame.new.out c.frames.number c.frames.at (frame_of c.in-Some.frame) c.frames.invariant c.in-Some.ensures.value (c.frames.at + length c.in-Some.frame.ciphertext.now - c.frames.at) (c.frames.at + length c.in-Some.frame.ciphertext.now)
      (text_found (key_of c.args.unlocked.now.cipher.key) c.args.unlocked.now.cipher.id c.frames.number (frame_of c.in-Some.frame) _ c.open_frame.new.out c.in-Ok.ensures.value (part_long c.args.unlocked.now c.args.bytes.now c.frames.out c.frames.rest.now [] c.frames.number c.frames.at (frame_of c.in-Some.frame) c.frames.invariant c.in-Some.ensures.value))
      (ap is_final c.in-Final.is) (omega arith) h m;
  within = omega arith;
}
