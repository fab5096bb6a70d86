use Rattle.std.proofs.Common.{◌+◌, [], length, sym, ap, ◌∙◌, ap₂, arith}
use Rattle.hkdf.specs.MessageKeys.{commitment}
use Rattle.format.proofs.KeyLengths.{length-commitment}
use Rattle.header.specs.Models.{request_with}
use Rattle.header.proofs.Refusals.{header_passed}
use Rattle.sealing.specs.Whole.{frames_length}
use Rattle.sealing.proofs.Messages.{text_short, few_frames, header_short, length_start, length_message}
use Rattle.sealing.proofs.message.checked_len.Goals as goal

pub overflow_add-result : goal.overflow_add-result
overflow_add-result c = let short = header_short c.args.header c.args.checked c.requires.passed c.requires.checked in omega arith

pub invariant_of-framing : goal.invariant_of-framing
invariant_of-framing c =
    let p = header_passed (request_with [] c.args.header []) (sym c.requires.passed) in
    record { some = p.frame_length; fits = c.requires.fits }

pub overflow_add-result-2 : goal.overflow_add-result-2
overflow_add-result-2 c =
    let short = header_short c.args.header c.args.checked c.requires.passed c.requires.checked in
    let p = header_passed (request_with [] c.args.header []) (sym c.requires.passed) in
    let t = text_short c.args.text_len c.args.header.frame_length c.requires.fits in
    let few = few_frames c.args.text_len c.args.header.frame_length p.frame_length t.0 in
    let text = t.1 in
    let long = c.frames_len.ensures in
    omega arith

pub returns : goal.returns
returns c = λ key t l.
    let p = header_passed (request_with [] c.args.header []) (sym c.requires.passed) in
    let id = c.args.header.id.now in
    ap₂ (λ a b. a + 16 + b) (c.requires.checked.header_long (commitment key c.args.header.id.now) (length-commitment key c.args.header.id.now))
    (c.frames_len.ensures ∙ ap (λ n. frames_length n c.args.header.frame_length) (sym l))
    ∙ ap (λ n. n + frames_length (length t) c.args.header.frame_length) (sym (length_start key c.args.header t)) ∙ sym (length_message (request_with key c.args.header t) p.frame_length)
