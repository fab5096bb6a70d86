use Rattle.std.proofs.Common.{◌≡◌, ◌-◌, length, take}
use Rattle.aes256.specs.Aes.{expand_words}
use Rattle.aes256.specs.Schedule.{words_upto}
use Rattle.aes256.proofs.schedule.expand_words.Given as goal

-- what is left to do gives all words, and the first eight stay
abbrev pub invariant-loop-i : goal.invariant-loop-i
invariant-loop-i l =
    (length l.w ≡ 60) × (take 8 l.w ≡ take 8 l.initial.w)
    × (expand_words (60 - l.i) l.i (words_upto l.w l.i) ≡ expand_words 52 8 (words_upto l.initial.w 8))
