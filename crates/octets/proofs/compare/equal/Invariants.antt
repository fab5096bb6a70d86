use Rattle.std.proofs.Common.{◌≡◌, eqb, take}
use Rattle.octets.specs.Bytes.{bytes_eq}
use Rattle.octets.proofs.compare.equal.Given as goal

abbrev pub invariant-loop-i : goal.invariant-loop-i
invariant-loop-i l = eqb l.differ 0 ≡ bytes_eq (take l.i l.a) (take l.i l.b)
