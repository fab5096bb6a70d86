use Rattle.std.proofs.Common.{refl, sym, ◌∙◌, arith, take_all}
use Rattle.octets.specs.Bytes.{xor_bytes}
use Rattle.octets.proofs.XorBytes.{length-xor}
use Rattle.gcm.proofs.Streams.{xor_more}
use Rattle.gcm.proofs.counter.xor_into.Goals as goal

pub loop-j-preserved : goal.loop-j-preserved
loop-j-preserved c =
    xor_more c.args.src.now c.args.mask.now c.loop-j.dst c.loop-j.j _ _ (omega arith) (omega arith) (omega arith) refl refl (omega arith) (omega arith) c.loop-j.invariant

pub returns : goal.returns
returns c =
    let src = c.args.src.now in
    let mask = c.args.mask.now in
    sym (take_all c.loop-j.j c.loop-j.dst (omega arith)) ∙ (c.loop-j.invariant ∙ take_all c.loop-j.j (xor_bytes src mask) (omega (arith, length-xor src mask (omega arith))))
