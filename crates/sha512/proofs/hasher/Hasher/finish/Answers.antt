use Rattle.std.proofs.Common.{ℕ, ◌≤◌, List, length, sym, ap, ◌∙◌, rules}
use Rattle.std.proofs.lemmas.List.{take_all}
use Rattle.octets.specs.Bytes.{take}
use Rattle.octets.proofs.Lists.{take_is}
use Rattle.sha512.specs.Sha512.{sha512, hash_from, words_bytes}
use Rattle.sha512.proofs.hasher.Hasher.finish.Goals as goal

-- the eight words are the 64 bytes, so the cut takes all of them
pub returns : goal.returns
unfolding sha512 hash_from
returns c =
    let r : List ℕ = c.digest.result in
    let l : length r ≤ 64 = search rules in
    record {
      value = λ m fed. sym (take_is 64 r ∙ take_all 64 r l) ∙ ap (take 64) (c.digest.ensures ∙ ap words_bytes (c.finish.ensures _ m fed));
    }
