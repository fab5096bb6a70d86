use Rattle.std.proofs.Common.{◌≡◌, take}
use Rattle.octets.specs.Bytes.{xor_bytes}
use Rattle.gcm.proofs.counter.xor_into.Given as goal

abbrev pub invariant-loop-j : goal.invariant-loop-j
invariant-loop-j l = take l.j l.dst ≡ take l.j (xor_bytes l.src l.mask)
