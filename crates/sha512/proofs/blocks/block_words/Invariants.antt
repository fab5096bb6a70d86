use Rattle.std.proofs.Common.{◌≡◌, length, take, map}
use Rattle.octets.specs.Bytes.{of_bytes}
use Rattle.sha512.proofs.blocks.block_words.Given as goal

abbrev pub invariant-loop-i : goal.invariant-loop-i
invariant-loop-i l = (length l.w ≡ 80) × (take l.i l.w ≡ map of_bytes (take l.i l.words))
