use Rattle.std.proofs.Common.{◌≡◌, length, refl, ◌∙◌, rules}
use Rattle.sha512.proofs.Pieces.{held_chunks}
use Rattle.sha512.proofs.stream.Stream.update.Goals as goal

pub returns : goal.returns
returns c initial m t =
    let l : length c.args.self.now.block ≡ 128 = search rules in
    held_chunks c.args.bytes.now c.copy_from_slice-2.new.self c.split_at.result.1.now c.copy_from_slice-3.new.self c.compress-full.result c.as_chunks.result.0.now _ _ t l
    c.used-used.ensures c.if-bytes-room.false
    (c.copy_from_slice-2.ensures.after ∙ c.split_at.ensures.front) c.split_at.ensures.back
    c.compress-full.ensures
    c.as_chunks.ensures.front (c.copy_from_slice-3.ensures.after ∙ c.as_chunks.ensures.back)
    c.hash_blocks-self.ensures refl refl
