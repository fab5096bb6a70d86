use Rattle.std.proofs.Common.{◌∙◌}
use Rattle.octets.proofs.Bits.{xor3, rotated}
use Rattle.sha512.proofs.words.big_sigma1.Goals as goal

pub returns : goal.returns
returns c =
    xor3 64 (c.rotate_right.ensures ∙ rotated 50 14 _ c.ranges.a.fits)
    (c.rotate_right-2.ensures ∙ rotated 46 18 _ c.ranges.a.fits)
    (c.rotate_right-3.ensures ∙ rotated 23 41 _ c.ranges.a.fits)
    c.rotate_right.type_inv c.rotate_right-2.type_inv c.rotate_right-3.type_inv
