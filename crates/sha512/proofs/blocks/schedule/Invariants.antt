use Rattle.std.proofs.Common.{◌≡◌, ◌-◌, length, take}
use Rattle.octets.specs.Bytes.{reversed}
use Rattle.sha512.specs.Sha512.{block_words, extend_words}
use Rattle.sha512.proofs.blocks.schedule.Given as goal

abbrev pub invariant-loop-t : goal.invariant-loop-t
invariant-loop-t l = (length l.w ≡ 80) × (extend_words (80 - l.t) (reversed (take l.t l.w)) ≡ extend_words 64 (reversed (block_words 16 l.block)))
