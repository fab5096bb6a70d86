use Rattle.std.proofs.Common.{◌≡◌, ◌-◌, ◌*◌, ◌/◌, length}
use Rattle.octets.specs.Bytes.{drop}
use Rattle.ghash.specs.Ghash.{ghash}
use Rattle.ghash.specs.Element.{value}
use Rattle.ghash.specs.Table.{hash_key_of}
use Rattle.ghash.proofs.hash.hash_padded.Given as goal

abbrev pub invariant-loop-block : goal.invariant-loop-block
invariant-loop-block l =
    ghash (length l.bytes / 16 - l.block-index) (hash_key_of l.table) (value l.s) (drop (16 * l.block-index) l.bytes)
    ≡ ghash (length l.bytes / 16) (hash_key_of l.table) (value l.initial.s) l.bytes
