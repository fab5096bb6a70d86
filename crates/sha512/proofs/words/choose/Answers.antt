use Rattle.std.proofs.Common.{◌-◌, ◌^◌, ◌<◌, arith}
use lib.Bits.{and_lt}
use Rattle.octets.proofs.Bits.{xor2, and2}
use Rattle.sha512.proofs.words.choose.Goals as goal

pub returns : goal.returns
returns c =
    let f = c.ranges in
    let n : 18446744073709551615 - c.args.e < 2 ^ 64 = omega arith in
    xor2 64 (and2 64 _ _ f.e.fits f.f.fits) (and2 64 _ _ n f.g.fits)
    (and_lt 64 _ _ f.e.fits f.f.fits) (and_lt 64 _ _ n f.g.fits)
