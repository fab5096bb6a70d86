use Rattle.std.proofs.Common.{◌≡◌, ℕ, List, [], ◌++◌, length, sym, ap, ◌∙◌, ap₂, rules}
use Rattle.aes256.specs.Columns.{words_bytes}
use Rattle.aes256.proofs.WordBytes.{with_four, all_four}
use Rattle.aes256.proofs.block.store.Goals as goal

part : List ℕ → List ℕ
part x = with_four x 0 []

pub returns : goal.returns
unfolding words_bytes part
returns c =
    let s : List ℕ = c.args.s in
    let l : length s ≡ 4 = search rules in
    ap₂ (λ (x y : List ℕ). part x ++ y) c.to_be_bytes.ensures (ap₂ (λ (x y : List ℕ). part x ++ y) c.to_be_bytes-2.ensures
    (ap₂ (λ (x y : List ℕ). part x ++ y) c.to_be_bytes-3.ensures (ap part c.to_be_bytes-4.ensures)))
    ∙ sym (ap words_bytes (all_four s l))
