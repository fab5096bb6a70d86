use Rattle.std.proofs.Common.{arith}
use Rattle.sealing.proofs.Messages.{regular_few}
use Rattle.sealing.proofs.framing.Framing.regular_frames.Goals as goal

pub overflow_cast-result-2 : goal.overflow_cast-result-2
overflow_cast-result-2 c =
    let few = (regular_few c.args.self.text_len c.saturating_sub.result c.args.self.frame_length c.saturating_sub.ensures c.args.self.some c.args.self.fits).1 in
    omega arith

pub returns : goal.returns
returns c =
    let r = regular_few c.args.self.text_len c.saturating_sub.result c.args.self.frame_length c.saturating_sub.ensures c.args.self.some c.args.self.fits in
    record { value = r.0; few = r.1 }
