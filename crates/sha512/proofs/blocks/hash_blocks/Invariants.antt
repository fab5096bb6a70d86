use Rattle.std.proofs.Common.{◌≡◌, take}
use Rattle.std.specs.Prelude.{fold}
use Rattle.sha512.specs.Sha512.{compress_block}
use Rattle.sha512.proofs.blocks.hash_blocks.Given as goal

abbrev pub invariant-loop-i : goal.invariant-loop-i
invariant-loop-i l = l.s ≡ fold compress_block l.initial.s (take l.i l.blocks)
