use Rattle.std.proofs.Common.{◌≡◌, ◌*◌, drop}
use Rattle.sha512.specs.Constants.{constants}
use Rattle.sha512.specs.Sha512.{rounds}
use Rattle.sha512.proofs.blocks.compress.Given as goal

abbrev pub invariant-loop-i : goal.invariant-loop-i
invariant-loop-i l = rounds l.s (drop (8 * l.i) constants) (drop (8 * l.i) l.w) ≡ rounds l.state constants l.w
