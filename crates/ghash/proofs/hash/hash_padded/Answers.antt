use Rattle.std.proofs.Common.{◌*◌, ◌/◌, length, sym, ap, ◌∙◌, ap₂, arith}
use native.Mathlib.Nat.{sub-zero}
use Rattle.std.proofs.lemmas.Bool.{eqb-true, eq-eqb}
use Rattle.octets.specs.Bits.{bits_xor}
use Rattle.octets.specs.Bytes.{drop}
use Rattle.octets.proofs.Lists.{drop_is}
use Rattle.ghash.specs.Field.{product}
use Rattle.ghash.specs.Ghash.{ghash}
use Rattle.ghash.specs.Element.{value}
use Rattle.ghash.specs.Table.{hash_key_of}
use Rattle.ghash.proofs.Blocks.{blocks_turn, ghash_end, padded_whole, padded_last}
use Rattle.ghash.proofs.hash.hash_padded.Goals as goal

pub loop-block-init : goal.loop-block-init
loop-block-init c =
    let s = c.args.bytes.now in
    ap₂ (λ k ys. ghash k (hash_key_of c.args.table.now) (value c.args.state) ys) (sub-zero (length s / 16)) (drop_is 0 s)

pub loop-block-preserved : goal.loop-block-preserved
loop-block-preserved c =
    blocks_turn (length c.args.bytes.now / 16) c.loop-block.block-index (hash_key_of c.args.table.now) (value c.loop-block.s) (value c.hash_block-s.result) (value c.from_bytes.result) _
    c.args.bytes.now _ c.as_chunks.result.0.now (omega arith) c.as_chunks.ensures.front c.from_bytes.ensures.value c.hash_block-s.ensures.value c.loop-block.invariant

pub returns-then-is_empty : goal.returns-then-is_empty
returns-then-is_empty c =
    let h = hash_key_of c.args.table.now in
    let s = c.args.bytes.now in
    let whole = ghash_end (length s / 16) c.loop-block.block-index h (value c.loop-block.s) _ (drop (16 * c.loop-block.block-index) s) (omega arith) c.loop-block.invariant in
    let e = eqb-true (length c.as_chunks.result.1.now) 0 (sym c.is_empty.ensures ∙ c.if-is_empty.true) in
    record { value = padded_whole s h (value c.args.state) _ (omega arith) whole }

pub returns : goal.returns
returns c =
    let h = hash_key_of c.args.table.now in
    let s = c.args.bytes.now in
    let a = value c.loop-block.s in
    let whole = ghash_end (length s / 16) c.loop-block.block-index h a _ (drop (16 * c.loop-block.block-index) s) (omega arith) c.loop-block.invariant in
    let rest = c.as_chunks.result.1.now in
    record {
      value =
          c.hash_block.ensures.value
          ∙ (ap (λ k. product (bits_xor 128 a k) h) c.from_bytes-2.ensures.value
          ∙ padded_last s rest c.filled.result h (value c.args.state) a (λ e. let z = eq-eqb (length rest) 0 (omega arith) in cc) c.as_chunks.ensures.back c.filled.ensures whole);
    }
