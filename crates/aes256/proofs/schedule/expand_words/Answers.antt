use Rattle.std.proofs.Common.{◌≡◌, ℕ, suc, ◌+◌, ◌-◌, List, [], ◌∷◌, ◌++◌, length, sym, ap, ◌∙◌, append-nil, arith, rules}
use Rattle.std.proofs.lemmas.List.{length-set, take-set-le, take_all}
use Rattle.octets.proofs.Lists.{take_is}
use Rattle.aes256.specs.Aes.{expand_words, joined}
use Rattle.aes256.specs.Columns.{words_bytes}
use Rattle.aes256.specs.Schedule.{words_upto}
use Rattle.aes256.proofs.ScheduleWords.{upto_set, expand_more, key_words_are, joined_upto}
use Rattle.aes256.proofs.schedule.expand_words.Goals as goal

pub loop-i-preserved : goal.loop-i-preserved
loop-i-preserved c =
    let i : ℕ = c.loop-i.i in let w : List ℕ = c.loop-i.w in
    let v : ℕ = c.next_word.result in
    let n : ℕ = 60 - (i + 1) in
    let e : 60 - i ≡ suc n = omega arith in
    let lw : length w ≡ 60 = c.loop-i.invariant.0 in (
      length-set w i v ∙ lw,
      take-set-le 8 w i v (omega arith) ∙ c.loop-i.invariant.1,
      ap (expand_words n (i + 1)) (upto_set w i v (omega arith) ∙ ap (λ (x : List ℕ). x ∷ words_upto w i) c.next_word.ensures)
          ∙ sym (expand_more n w i (omega arith))
          ∙ ap (λ (m : ℕ). expand_words m i (words_upto w i)) (sym e)
          ∙ c.loop-i.invariant.2,
    )

pub returns : goal.returns
unfolding expand_words
returns c =
    let w : List ℕ = c.loop-i.w in let f : List ℕ = c.args.first in
    let e : c.loop-i.i ≡ 60 = omega arith in
    let lw : length w ≡ 60 = c.loop-i.invariant.0 in
    let lf : length f ≡ 60 = search rules in (
      take_is 8 w ∙ c.loop-i.invariant.1 ∙ sym (take_is 8 f),
      sym (append-nil (words_bytes w)) ∙ ap (λ (t : List ℕ). words_bytes t ++ []) (sym (take_all 60 w (omega arith)))
          ∙ sym (joined_upto w 60 [] (omega arith))
          ∙ ap (λ (t : List (List ℕ)). joined t [])
          (ap (λ (m : ℕ). expand_words (60 - m) m (words_upto w m)) (sym e) ∙ c.loop-i.invariant.2
          ∙ ap (expand_words 52 8) (sym (key_words_are f (omega arith)))),
    )
