use Rattle.std.proofs.Common.{sym, ◌∙◌}
use Rattle.octets.proofs.Lists.{repeat_is}
use Rattle.aes256.proofs.keys.RoundKeys.wipe.Goals as goal

pub returns : goal.returns
returns c = record { value = c.expand_key.ensures.value ∙ sym (repeat_is 32 0) }
