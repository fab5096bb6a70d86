use Rattle.std.proofs.Common.{ap, ◌∙◌}
use Rattle.octets.specs.Bytes.{repeat, of_bytes}
use Rattle.gcm.specs.Key.{key_of}
use Rattle.gcm.proofs.key.Key.new.Goals as goal

pub invariant_of-result : goal.invariant_of-result
unfolding repeat
invariant_of-result c = record { matching = c.new-table.ensures.value ∙ (c.from_bytes.ensures.value ∙ ap (λ xs. of_bytes xs) c.encrypt_block-hash_key.ensures.value) }

pub returns : goal.returns
unfolding key_of
returns c = record { value = c.expand_key-keys.ensures.value }
