use Rattle.std.proofs.Common.{◌≡◌, ◌-◌, ◌*◌, drop}
use Rattle.aes256.specs.Aes.{cipher_rounds}
use Rattle.aes256.specs.Columns.{words_bytes}
use Rattle.aes256.proofs.block.encrypt_words.Given as goal

-- the rounds that are left give what all rounds give
abbrev pub invariant-loop-i : goal.invariant-loop-i
invariant-loop-i l = cipher_rounds (14 - l.i) (words_bytes (drop (4 * l.i) l.words)) (words_bytes l.s) ≡ cipher_rounds 13 (words_bytes (drop 4 l.words)) (words_bytes l.initial.s)
