use Rattle.std.proofs.Common.{ℕ, ◌+◌, ◌/◌, List, length, refl, ap, ◌∙◌, arith}
use Rattle.aes256.specs.Aes.{round_keys, aes}
use Rattle.aes256.specs.RoundKeys.{key_of}
use Rattle.gcm.proofs.Streams.{ctr_turn, ctr_end}
use Rattle.gcm.proofs.counter.xor_keystream.Goals as goal

pub loop-i-preserved : goal.loop-i-preserved
loop-i-preserved c =
    let ks : List ℕ = round_keys (key_of c.args.keys.now) in
    let src : List ℕ = c.args.src.now in
    let i : ℕ = c.loop-i.i in (
      ctr_turn ks c.args.nonce.now src c.loop-i.dst c.encrypt_block-mask.result c.xor_into.new.dst i ((length src + 15) / 16) _ _
          (omega arith) refl c.loop-i.invariant.1 (omega arith) (omega arith) (c.encrypt_block-mask.ensures.value ∙ ap (λ b. aes ks b) c.counter_block.ensures) c.xor_into.ensures c.loop-i.invariant.0,
      omega arith,
    )

pub returns : goal.returns
returns c =
    let src : List ℕ = c.args.src.now in
    ctr_end (round_keys (key_of c.args.keys.now)) c.args.nonce.now src c.loop-i.dst c.loop-i.i ((length src + 15) / 16) _ (omega arith) refl c.loop-i.invariant.1
    c.loop-i.invariant.0
