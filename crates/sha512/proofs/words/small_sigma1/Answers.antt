use Rattle.std.proofs.Common.{◌∙◌, arith}
use Rattle.octets.proofs.Bits.{xor3, rotated, shifted}
use Rattle.sha512.proofs.words.small_sigma1.Goals as goal

pub returns : goal.returns
returns c =
    xor3 64 (c.rotate_right.ensures ∙ rotated 45 19 _ c.ranges.a.fits)
    (c.rotate_right-2.ensures ∙ rotated 3 61 _ c.ranges.a.fits)
    (shifted 6 _)
    c.rotate_right.type_inv c.rotate_right-2.type_inv (omega arith)
