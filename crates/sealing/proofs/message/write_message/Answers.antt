use Rattle.std.proofs.Common.{◌≡◌, suc, length, sym, refl, ◌∙◌, ap₂, arith}
use Rattle.format.specs.Message.{frames}
use Rattle.header.specs.Models.{request_of}
use Rattle.header.proofs.Refusals.{header_passed}
use Rattle.sealing.proofs.Answered.{passed_parts}
use Rattle.sealing.proofs.Messages.{start_of_keys, start_of_keys_room, frames_room, part_long, whole}
use Rattle.sealing.proofs.message.write_message.Goals as goal

pub invariant_of-framing : goal.invariant_of-framing
invariant_of-framing c =
    let parts = passed_parts (request_of c.args.request) c.requires.passed in
    record { some = (header_passed (request_of c.args.request) (sym parts.0)).frame_length; fits = parts.1 }

pub write_start-at-requires : goal.write_start-at-requires
write_start-at-requires c =
    let parts = passed_parts (request_of c.args.request) c.requires.passed in
    let low = (header_passed (request_of c.args.request) (sym parts.0)).frame_length in
    let keys = rw (c.requires.checked.key, c.requires.checked.header.id) at c.new-keys.ensures in
    record { passed = parts.0; room = start_of_keys_room c.args.request.key.now c.args.request.header c.args.request.text.now _ _ keys low c.requires.room }

pub seal_frames-requires : goal.seal_frames-requires
seal_frames-requires c =
    let parts = passed_parts (request_of c.args.request) c.requires.passed in
    let low = (header_passed (request_of c.args.request) (sym parts.0)).frame_length in
    let keys = rw (c.requires.checked.key, c.requires.checked.header.id) at c.new-keys.ensures in
    let first = start_of_keys c.args.request.key.now c.args.request.header c.args.request.text.now _ keys in
    let w = c.write_start-at.ensures in
    let fit = w.room in
    let next = w.next in
    let mid : length c.write_start-at.new.out ≡ length c.args.out.now = omega arith in
    let room = frames_room (request_of c.args.request) _ c.write_start-at.result (length c.write_start-at.new.out) w.next first low (mid ∙ c.requires.room) in
    record {
      text = refl;
      room = part_long c.write_start-at.new.out c.write_start-at.result (length c.write_start-at.new.out) (omega arith) (omega arith) ∙ room;
    }

pub returns : goal.returns
returns c =
    let keys = rw (c.requires.checked.key, c.requires.checked.header.id) at c.new-keys.ensures in
    let w = c.write_start-at.ensures in
    let fit = w.room in
    let next = w.next in
    let long = part_long c.write_start-at.new.out c.write_start-at.result (length c.write_start-at.new.out) (omega arith) (omega arith) in
    whole (request_of c.args.request) c.args.out.now c.write_start-at.new.out c.seal_frames.new.out _ c.write_start-at.result _ w
    (start_of_keys c.args.request.key.now c.args.request.header c.args.request.text.now _ keys) c.requires.room (omega arith)
    (c.seal_frames.ensures
    ∙ ap₂ (λ a b. frames (suc (length c.args.request.text.now)) a b c.args.request.header.frame_length 1 c.args.request.text.now) keys.sealing_key keys.id)
