use Rattle.std.proofs.Common.{◌≡◌, length, take, map}
use Rattle.octets.specs.Bits.{bits_xor}
use Rattle.hkdf.proofs.mac.each_xor.Given as goal

abbrev pub invariant-loop-i : goal.invariant-loop-i
invariant-loop-i l = (length l.out ≡ 128) × (take l.i l.out ≡ map (bits_xor 8 l.mask) (take l.i l.block))
