use Rattle.std.proofs.Common.{◌-◌, ◌++◌, length, sym, ◌∙◌, ap₂}
use Rattle.std.proofs.lemmas.List.{drop-replicate}
use Rattle.octets.proofs.Lists.{repeat_is}
use Rattle.ghash.proofs.hash.filled.Goals as goal

pub returns : goal.returns
returns c =
    let n = length c.args.bytes.now in
    ap₂ (λ xs ys. xs ++ ys) c.copy_from_slice.ensures.after (drop-replicate n 16 0 ∙ sym (repeat_is (16 - n) 0))
