use Rattle.std.proofs.Common.{◌≡◌, ◌*◌, length, take, drop}
use Rattle.cli.specs.Hex.{unhex}
use Rattle.cli.proofs.Digits.{read_on}
use Rattle.cli.proofs.hex.unhex32.Given as goal

abbrev pub invariant-loop-i : goal.invariant-loop-i
invariant-loop-i l = (length l.bytes ≡ 32) × (read_on (take l.i l.bytes) (unhex (drop (2 * l.i) l.digits)) ≡ unhex l.digits)
