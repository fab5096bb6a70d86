use Rattle.std.proofs.Common.{take, drop, sym, ap, ◌∙◌}
use Rattle.octets.proofs.Numbers.{to_bytes_4}
use Rattle.gcm.proofs.Streams.{counter_block}
use Rattle.gcm.proofs.counter.counter_block.Goals as goal

pub returns : goal.returns
returns c =
    counter_block c.copy_from_slice.new.self c.copy_from_slice-2.new.self c.args.nonce.now c.args.c c.told-nonce c.copy_from_slice.ensures.after
    (c.copy_from_slice-2.ensures.after ∙ (ap (λ bs. take 4 (drop 4 bs)) c.to_be_bytes.ensures ∙ sym (to_bytes_4 c.args.c)))
