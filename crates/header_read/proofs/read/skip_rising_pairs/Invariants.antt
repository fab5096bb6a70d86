use Rattle.std.proofs.Common.{◌≡◌, ◌-◌, None}
use Rattle.header_read.proofs.Walk.{walk, last_name}
use Rattle.header_read.proofs.read.skip_rising_pairs.Given as goal

abbrev pub invariant-loop : goal.invariant-loop
invariant-loop l = walk (last_name l.last) (l.count - l.counter) l.rest ≡ walk None l.count l.bytes
