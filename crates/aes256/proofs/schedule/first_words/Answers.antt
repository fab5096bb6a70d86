use Rattle.std.proofs.Common.{◌≡◌, ℕ, ◌+◌, ◌*◌, ◌/◌, List, [], ◌∷◌, ◌++◌, length, get_or, take, drop, sym, refl, ap, ◌∙◌, ap₂, append_assoc, append-nil, arith, rules}
use Rattle.std.proofs.lemmas.List.{length-set, take_more_set, drop_all}
use Rattle.std.specs.Simd.{first_chunks}
use Rattle.octets.proofs.Lists.{take_is}
use Rattle.aes256.specs.Columns.{word_bytes, words_bytes}
use Rattle.aes256.proofs.WordBytes.{bytes_of_word, words_bytes-append, drop_four, with_four, four_at, word_at}
use Rattle.aes256.proofs.schedule.first_words.Goals as goal

pub loop-i-init : goal.loop-i-init
unfolding words_bytes
loop-i-init c = (refl, refl)

pub loop-i-preserved : goal.loop-i-preserved
unfolding words_bytes
loop-i-preserved c =
    let i : ℕ = c.loop-i.i in let w : List ℕ = c.loop-i.w in let k : List ℕ = c.args.key.now in
    let v : ℕ = c.from_be_bytes.result in
    let l : length k ≡ 32 = search rules in
    let lw : length w ≡ 60 = c.loop-i.invariant.0 in
    let f : 4 * (i + 1) ≡ 4 * i + 4 = omega arith in
    let cut : c.as_chunks.result.0.now ≡ first_chunks 4 8 k = c.as_chunks.ensures.front ∙ ap (λ (n : ℕ). first_chunks 4 (n / 4) k) l in
    let new : word_bytes v ≡ with_four k (4 * i) [] = ap word_bytes (word_at v _ k (4 * i) (four_at c.as_chunks.result.0.now 8 i k _ cut (omega arith) (omega arith)) c.from_be_bytes.ensures)
    ∙ bytes_of_word (get_or k (4 * i) 0) (get_or k (4 * i + 1) 0) (get_or k (4 * i + 2) 0) (get_or k (4 * i + 3) 0)
    (c.fits-key (4 * i)) (c.fits-key (4 * i + 1)) (c.fits-key (4 * i + 2)) (c.fits-key (4 * i + 3)) in (
      length-set w i v ∙ lw,
      ap₂ (λ (x : List ℕ) (j : ℕ). x ++ drop j k)
          (ap words_bytes (take_more_set w i v (omega arith)) ∙ words_bytes-append (take i w) (v ∷ []) ∙ ap (λ (x : List ℕ). words_bytes (take i w) ++ x) new) f
          ∙ append_assoc (words_bytes (take i w)) (with_four k (4 * i) []) (drop (4 * i + 4) k)
          ∙ ap (λ (x : List ℕ). words_bytes (take i w) ++ x) (sym (drop_four k (4 * i) (omega arith)))
          ∙ c.loop-i.invariant.1,
    )

pub returns : goal.returns
returns c =
    let w : List ℕ = c.loop-i.w in let k : List ℕ = c.args.key.now in
    let e : c.loop-i.i ≡ 8 = omega arith in
    let l : length k ≡ 32 = search rules in
    ap words_bytes (take_is 8 w) ∙ sym (append-nil (words_bytes (take 8 w)))
    ∙ ap (λ (x : List ℕ). words_bytes (take 8 w) ++ x) (sym (drop_all 32 k (omega arith)))
    ∙ ap (λ (m : ℕ). words_bytes (take m w) ++ drop (4 * m) k) (sym e)
    ∙ c.loop-i.invariant.1
