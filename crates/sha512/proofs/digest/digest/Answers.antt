use Rattle.std.proofs.Common.{◌≡◌, ℕ, ◌+◌, ◌-◌, ◌*◌, ◌<◌, List, ◌++◌, length, get_or, take, sym, ap, ◌∙◌, ap₂, arith, rules}
use Rattle.std.proofs.lemmas.List.{take_more, places}
use Rattle.std.proofs.lemmas.Slice.{take-put_mid}
use Rattle.octets.specs.Bytes.{to_bytes}
use Rattle.octets.proofs.Numbers.{to_bytes_8}
use Rattle.sha512.specs.Sha512.{words_bytes}
use Rattle.sha512.proofs.Padding.{words_bytes_push}
use Rattle.sha512.proofs.digest.digest.Goals as goal

pub loop-i-preserved : goal.loop-i-preserved
loop-i-preserved c =
    let i : ℕ = c.loop-i.i in
    let m : length c.args.state ≡ 8 = search rules in
    let l : i < length c.args.state = omega arith in
    let is : c.copy_from_slice.new.self ≡ to_bytes 8 (get_or c.args.state i 0)
    = c.copy_from_slice.ensures.after ∙ c.to_be_bytes.ensures ∙ sym (to_bytes_8 (get_or c.args.state i 0)) in
    let k : length c.copy_from_slice.new.self ≡ 8 = search rules in (
      search (rules, places),
      take-put_mid (8 * i) (8 * i + 8 - 8 * i) c.loop-i.out c.copy_from_slice.new.self (8 * (i + 1)) (omega arith) (omega arith)
          ∙ ap₂ (λ (x y : List ℕ). x ++ y) c.loop-i.invariant.1 is
          ∙ sym (ap words_bytes (take_more c.args.state i 0 l) ∙ words_bytes_push (take i c.args.state) (get_or c.args.state i 0)),
    )
