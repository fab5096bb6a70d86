use Rattle.std.proofs.Common.{ℕ, List, ap, ◌∙◌}
use Rattle.aes256.specs.Aes.{aes, round_keys}
use Rattle.aes256.specs.Examples.{example_key, example_plaintext}
use Rattle.aes256.proofs.PrintedValues.{example_printed}
use Rattle.aes256.proofs.examples.example_is_encrypted.Goals as goal

pub returns : goal.returns
unfolding example_key example_plaintext
returns c =
    record {
      definition = example_printed;
      value = c.encrypt_block.ensures.value ∙ ap (λ (k : List ℕ). aes (round_keys k) example_plaintext) c.expand_key-keys.ensures.value ∙ example_printed;
    }
