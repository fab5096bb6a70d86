use Rattle.std.proofs.Common.{ap, ◌∙◌}
use Rattle.aes256.specs.Columns.{words_bytes}
use Rattle.aes256.specs.RoundKeys.{key_of}
use Rattle.aes256.proofs.schedule.expand_key.Goals as goal

pub returns : goal.returns
unfolding key_of
returns c = record { value = ap words_bytes c.expand_words-words.ensures.0 ∙ c.first_words.ensures }
