use Rattle.std.proofs.Common.{ap, ◌∙◌}
use Rattle.octets.proofs.Cuts.{and_then_some, and_then_none}
use Rattle.frames.specs.Next.{next_frame}
use Rattle.frames.proofs.Steps.{regular_steps}
use Rattle.frames.proofs.next.read_regular.Goals as goal

pub returns-in_err-sealed : goal.returns-in_err-sealed
returns-in_err-sealed c = ap next_frame c.from_residual.ensures ∙ and_then_none _ _ c.in_err-sealed.ensures ∙ regular_steps c.args.frame_length c.args.number c.args.bytes.now

pub returns : goal.returns
returns c = c.read_body.ensures ∙ and_then_some _ _ _ c.in_ok-sealed.ensures ∙ regular_steps c.args.frame_length c.args.number c.args.bytes.now
