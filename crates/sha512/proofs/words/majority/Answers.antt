use lib.Bits.{and_lt}
use Rattle.octets.proofs.Bits.{xor3, and2}
use Rattle.sha512.proofs.words.majority.Goals as goal

pub returns : goal.returns
returns c =
    let f = c.ranges in
    xor3 64 (and2 64 _ _ f.a.fits f.b.fits) (and2 64 _ _ f.a.fits f.c.fits) (and2 64 _ _ f.b.fits f.c.fits)
    (and_lt 64 _ _ f.a.fits f.b.fits) (and_lt 64 _ _ f.a.fits f.c.fits) (and_lt 64 _ _ f.b.fits f.c.fits)
