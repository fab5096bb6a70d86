use Rattle.std.proofs.Common.{arith}
use Rattle.gcm.specs.Key.{key_of}
use Rattle.gcm.proofs.Calls.{other_tag, right_tag}
use Rattle.gcm.proofs.piece.open.Goals as goal

pub returns-then-not-equal_fixed : goal.returns-then-not-equal_fixed
returns-then-not-equal_fixed c =
    record {
      value =
          other_tag (key_of c.args.key.now) c.args.nonce.now c.args.aad.now c.args.ciphertext.now c.args.tag.now c.args.out.now
          c.compute_tag-own.result c.compute_tag-own.ensures c.if-not-equal_fixed.ensures.value;
    }

pub returns : goal.returns
unfolding key_of
returns c =
    record {
      value =
          right_tag (key_of c.args.key.now) c.args.nonce.now c.args.aad.now c.args.ciphertext.now c.args.tag.now c.args.out.now
          c.compute_tag-own.result c.xor_keystream.new.dst (omega arith) c.compute_tag-own.ensures c.if-not-equal_fixed.ensures.value c.xor_keystream.ensures;
    }
