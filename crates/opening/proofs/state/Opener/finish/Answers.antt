use Rattle.std.proofs.Common.{[], sym, refl, ◌∙◌}
use Rattle.octets.proofs.Bits.{pick_true, pick_false}
use Rattle.opening.proofs.Steps.{step_none}
use Rattle.opening.proofs.FrameByFrame.{no_frame_left}
use Rattle.opening.proofs.state.Opener.finish.Goals as goal

pub returns-then-self : goal.returns-then-self
returns-then-self c = record { value = λ h sofar. sym (pick_true _ _ _ c.if-self.true ∙ pick_true _ _ _ refl); wiped = c.wipe.ensures.value }

pub returns : goal.returns
returns c = record {
  value = λ h sofar m.
      step_none c.args.self.now.unlocked h m c.args.self.now.number sofar [] (no_frame_left c.args.self.now.unlocked.frame_length c.args.self.now.number) ∙ sym (pick_false _ _ _ c.if-self.false);
  wiped = c.wipe.ensures.value;
}
