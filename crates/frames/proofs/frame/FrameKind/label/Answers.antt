use Rattle.std.proofs.Common.{sym, ap}
use Rattle.octets.specs.Bits.{pick}
use Rattle.format.specs.Piece.{regular_label, final_label}
use Rattle.frames.specs.Kind.{is_final}
use Rattle.frames.proofs.frame.FrameKind.label.Goals as goal

pub returns-in-Regular : goal.returns-in-Regular
unfolding pick regular_label
returns-in-Regular c = ap (λ k. pick (is_final k) final_label regular_label) (sym c.in-Regular.is)

pub returns-in-Final : goal.returns-in-Final
unfolding pick final_label
returns-in-Final c = ap (λ k. pick (is_final k) final_label regular_label) (sym c.in-Final.is)
