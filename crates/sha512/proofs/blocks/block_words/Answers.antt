use Rattle.std.proofs.Common.{◌/◌, map, sym, ap, ◌∙◌, arith, length-set}
use Rattle.std.specs.Simd.{first_chunks}
use Rattle.octets.specs.Bytes.{of_bytes}
use Rattle.octets.proofs.Chunks.{of_8, length-chunk, written_more, written_all}
use Rattle.sha512.proofs.Chunks.{block_words_is}
use Rattle.sha512.proofs.blocks.block_words.Goals as goal

pub loop-i-preserved : goal.loop-i-preserved
loop-i-preserved c =
    let l = length-chunk 8 c.loop-i.i c.args.block.now _ c.as_chunks.ensures.front (omega arith) in (
      length-set c.loop-i.w c.loop-i.i _ ∙ c.loop-i.invariant.0,
      written_more of_bytes c.loop-i.w _ c.loop-i.i _ _ (omega arith) (omega arith) (c.from_be_bytes.ensures ∙ of_8 _ l) c.loop-i.invariant.1,
    )

pub returns : goal.returns
returns c =
    written_all of_bytes c.loop-i.w c.as_chunks.result.0.now c.loop-i.i 16 (omega arith) (omega arith) c.loop-i.invariant.1
    ∙ ap (map of_bytes) (c.as_chunks.ensures.front ∙ ap (λ k. first_chunks 8 (k / 8) c.args.block.now) c.told-block) ∙ sym (block_words_is 16 c.args.block.now)
