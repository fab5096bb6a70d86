use Rattle.std.proofs.Common.{◌≡◌, ◌≤◌, drop}
use Rattle.cli.specs.Number.{digits_on}
use Rattle.cli.proofs.number.decimal.Given as goal

abbrev pub invariant-loop-b : goal.invariant-loop-b
invariant-loop-b l = (l.n ≤ l.high) × (digits_on l.high l.n (drop l.b-index l.digits) ≡ digits_on l.high 0 l.digits)
