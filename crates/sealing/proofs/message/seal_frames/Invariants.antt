use Rattle.std.proofs.Common.{◌≡◌, suc, ◌-◌, ◌*◌, ◌/◌, ◌++◌, length, take}
use Rattle.gcm.specs.Key.{key_of}
use Rattle.format.specs.Message.{frames}
use Rattle.sealing.proofs.Remaining.{left}
use Rattle.sealing.proofs.message.seal_frames.Given as goal

abbrev pub invariant-loop-done : goal.invariant-loop-done
invariant-loop-done l =
    (l.regular ≡ (l.fn.framing.text_len - 1) / l.fn.framing.frame_length)
    × (take (l.done * l.sealed) l.out ++ left (key_of l.cipher.key) l.cipher.id l.text l.fn.framing.frame_length l.done
    ≡ frames (suc (length l.text)) (key_of l.cipher.key) l.cipher.id l.fn.framing.frame_length 1 l.text)
