use Rattle.std.proofs.Common.{length, sym, ◌∙◌}
use Rattle.octets.proofs.Lists.{repeat_is}
use Rattle.octets.proofs.write.clear.Goals as goal

pub returns : goal.returns
returns c = record { value = c.fill.ensures.after (λ y e. cc) ∙ sym (repeat_is (length c.args.out.now) 0) }
