use Rattle.std.proofs.Common.{ap, ◌∙◌, arith}
use Rattle.aes256.specs.Aes.{round_keys}
use Rattle.gcm.specs.Gcm.{tag_of}
use Rattle.gcm.specs.Key.{key_of}
use Rattle.gcm.proofs.piece.seal.Goals as goal

pub returns : goal.returns
unfolding key_of
returns c =
    record {
      value =
          record {
            room = omega arith;
            ciphertext = c.xor_keystream.ensures;
            tag_is =
                c.compute_tag.ensures
                ∙ ap (λ xs. tag_of (round_keys (key_of c.args.key.now)) c.args.nonce.now c.args.aad.now xs) c.xor_keystream.ensures;
          };
    }
