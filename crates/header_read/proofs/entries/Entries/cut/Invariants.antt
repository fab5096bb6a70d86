use Rattle.std.proofs.Common.{◌≡◌, ◌-◌}
use Rattle.header_read.specs.Cuts.{skipped}
use Rattle.header_read.proofs.entries.Entries.cut.Given as goal

abbrev pub invariant-loop : goal.invariant-loop
invariant-loop g l = skipped g.K.Kind.cut (l.count - l.counter) l.rest ≡ skipped g.K.Kind.cut l.count l.bytes
