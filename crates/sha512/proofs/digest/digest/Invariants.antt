use Rattle.std.proofs.Common.{◌≡◌, ◌*◌, length, take}
use Rattle.sha512.specs.Sha512.{words_bytes}
use Rattle.sha512.proofs.digest.digest.Given as goal

abbrev pub invariant-loop-i : goal.invariant-loop-i
invariant-loop-i l = (length l.out ≡ 64) × (take (8 * l.i) l.out ≡ words_bytes (take l.i l.state))
