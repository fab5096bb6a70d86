use Rattle.std.proofs.Common.{◌∙◌}
use Rattle.octets.proofs.Bits.{xor3, rotated}
use Rattle.sha512.proofs.words.big_sigma0.Goals as goal

pub returns : goal.returns
returns c =
    xor3 64 (c.rotate_right.ensures ∙ rotated 36 28 _ c.ranges.a.fits)
    (c.rotate_right-2.ensures ∙ rotated 30 34 _ c.ranges.a.fits)
    (c.rotate_right-3.ensures ∙ rotated 25 39 _ c.ranges.a.fits)
    c.rotate_right.type_inv c.rotate_right-2.type_inv c.rotate_right-3.type_inv
