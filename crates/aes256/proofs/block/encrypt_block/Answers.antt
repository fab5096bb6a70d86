use Rattle.std.proofs.Common.{ℕ, List, ap, ◌∙◌}
use Rattle.aes256.specs.Aes.{aes}
use Rattle.aes256.specs.RoundKeys.{key_of}
use Rattle.aes256.proofs.block.encrypt_block.Goals as goal

pub returns : goal.returns
unfolding key_of
returns c = record { value = c.encrypt_words.ensures ∙ ap (λ (ks : List ℕ). aes ks c.args.block) c.args.keys.now.expanded }
