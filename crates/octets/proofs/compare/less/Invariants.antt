use Rattle.std.proofs.Common.{◌≡◌, drop}
use Rattle.octets.specs.Bytes.{bytes_lt}
use Rattle.octets.proofs.compare.less.Given as goal

abbrev pub invariant-loop-i : goal.invariant-loop-i
invariant-loop-i l = bytes_lt (drop l.i l.a) (drop l.i l.b) ≡ bytes_lt l.a l.b
