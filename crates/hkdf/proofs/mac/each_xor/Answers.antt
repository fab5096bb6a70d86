use Rattle.std.proofs.Common.{◌≡◌, length, sym, ◌∙◌, arith, rules, length-set, take_all}
use Rattle.octets.specs.Bits.{bits_xor}
use Rattle.octets.proofs.Bits.{bits_xor_is}
use Rattle.octets.proofs.Chunks.{written_more, written_all}
use Rattle.hkdf.proofs.BlockKey.{each_xor_is}
use Rattle.hkdf.proofs.mac.each_xor.Goals as goal

pub loop-i-preserved : goal.loop-i-preserved
loop-i-preserved c =
    let m : length c.args.block ≡ 128 = search rules in (
      length-set c.loop-i.out c.loop-i.i _ ∙ c.loop-i.invariant.0,
      written_more (bits_xor 8 c.args.mask) c.loop-i.out c.args.block c.loop-i.i _ 0 (omega arith) (omega arith)
          (sym (bits_xor_is 8 c.args.mask _ c.ranges.mask.fits c.loop-i-test.element_fits.fits)) c.loop-i.invariant.1,
    )

pub returns : goal.returns
returns c =
    let m : length c.args.block ≡ 128 = search rules in
    sym (take_all 128 c.loop-i.out (omega arith)) ∙ written_all (bits_xor 8 c.args.mask) c.loop-i.out c.args.block c.loop-i.i 128 (omega arith) m c.loop-i.invariant.1
    ∙ sym (each_xor_is c.args.mask c.args.block)
