use Rattle.std.proofs.Common.{◌≡◌, ◌*◌, ◌++◌, length, take, drop}
use Rattle.aes256.specs.Columns.{words_bytes}
use Rattle.aes256.proofs.schedule.first_words.Given as goal

-- the words that are made, and the bytes that are left, are the key
abbrev pub invariant-loop-i : goal.invariant-loop-i
invariant-loop-i l = (length l.w ≡ 60) × (words_bytes (take l.i l.w) ++ drop (4 * l.i) l.key ≡ l.key)
