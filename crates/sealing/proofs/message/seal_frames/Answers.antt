use Rattle.std.proofs.Common.{◌≡◌, ℕ, ◌+◌, ◌*◌, refl, arith, add-mul}
use Rattle.gcm.specs.Key.{key_of}
use Rattle.sealing.proofs.Messages.{part_long}
use Rattle.sealing.proofs.Remaining.{place, at_last, last_place, left_more, left_end}
use Rattle.sealing.proofs.message.seal_frames.Goals as goal

pub loop-done-preserved : goal.loop-done-preserved
loop-done-preserved c =
    let sealed : c.args.framing.frame_length + c.overhead.result ≡ c.args.framing.frame_length + 32 = omega arith in
    let p = place c.args.framing.text_len c.args.framing.frame_length c.loop-done.done _ (c.args.framing.frame_length + c.overhead.result) c.args.framing.some sealed c.loop-done.invariant.0 c.loop-done-test.true in
    let more = p.more in
    let room = p.room in
    let at : ℕ = c.loop-done.done * (c.args.framing.frame_length + c.overhead.result) in
    let long = part_long c.loop-done.out at (at + (c.args.framing.frame_length + c.overhead.result)) (omega arith) (omega arith) in
    let next = add-mul c.loop-done.done 1 (c.args.framing.frame_length + c.overhead.result) in
    let frame = rw c.unwrap.ensures at c.seal_frame.ensures.value in (
      c.loop-done.invariant.0,
      left_more (key_of c.args.cipher.now.key) c.args.cipher.now.id c.args.text.now _ c.loop-done.out c.seal_frame.new.out c.args.framing.frame_length c.loop-done.done _ _ _ _
          c.args.framing.some (omega arith) (omega arith) (omega arith) (omega arith) (omega arith) frame c.loop-done.invariant.1,
    )

pub returns : goal.returns
returns c =
    let sealed : c.args.framing.frame_length + c.overhead.result ≡ c.args.framing.frame_length + 32 = omega arith in
    let p = last_place c.args.framing.text_len c.args.framing.frame_length _ (c.args.framing.frame_length + c.overhead.result) c.args.framing.some sealed c.loop-done.invariant.0 in
    let within = p.within in
    let short = p.short in
    let room = p.room in
    let all = at_last _ _ (omega arith) c.loop-done-test.false in
    let frame = rw c.unwrap-2.ensures at c.seal_frame-2.ensures.value in
    left_end (key_of c.args.cipher.now.key) c.args.cipher.now.id c.args.text.now _ c.loop-done.out c.seal_frame-2.new.out c.args.framing.frame_length _ _ _ _
    (omega arith) (omega arith) refl refl (omega arith) frame (rw all at c.loop-done.invariant.1)
