use Rattle.std.proofs.Common.{◌≡◌, ℕ, List, [], ◌∷◌, length, get_or, sym, ap, ◌∙◌, ap₂, arith, rules}
use Rattle.octets.specs.Bytes.{xor_bytes}
use Rattle.aes256.specs.Aes.{sub_bytes, shift_rows}
use Rattle.aes256.specs.Columns.{words_bytes}
use Rattle.aes256.proofs.WordBytes.{all_four}
use Rattle.aes256.proofs.RoundBytes.{last_round_is}
use Rattle.aes256.proofs.rounds.last_round.Goals as goal

pub returns : goal.returns
returns c =
    let s : List ℕ = c.args.s in let k : List ℕ = c.args.k in
    let ls : length s ≡ 4 = search rules in let lk : length k ≡ 4 = search rules in
    ap words_bytes (ap₂ (λ (x : ℕ) (t : List ℕ). x ∷ t) c.sub_column.ensures (ap₂ (λ (x : ℕ) (t : List ℕ). x ∷ t) c.sub_column-2.ensures
    (ap₂ (λ (x : ℕ) (t : List ℕ). x ∷ t) c.sub_column-3.ensures (ap (λ (x : ℕ). x ∷ []) c.sub_column-4.ensures))))
    ∙ last_round_is (get_or s 0 0) (get_or s 1 0) (get_or s 2 0) (get_or s 3 0) (get_or k 0 0) (get_or k 1 0) (get_or k 2 0) (get_or k 3 0)
    (omega arith) (omega arith) (omega arith) (omega arith)
    ∙ ap₂ (λ (x y : List ℕ). xor_bytes (shift_rows (sub_bytes (words_bytes x))) (words_bytes y)) (sym (all_four s ls)) (sym (all_four k lk))
