use Rattle.std.proofs.Common.{◌≡◌, length, take}
use Rattle.sha512.specs.Sha512.{add_words}
use Rattle.sha512.proofs.blocks.add_words.Given as goal

abbrev pub invariant-loop-i : goal.invariant-loop-i
invariant-loop-i l = (length l.sum ≡ 8) × (take l.i l.sum ≡ add_words (take l.i l.a) (take l.i l.b))
