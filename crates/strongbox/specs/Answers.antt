-- What the calls answer, with what the lent bytes hold after, in the words of the promise. These are definitions: they assume nothing.
use Rattle.std.specs.Prelude.{◌≡◌, ℕ, ◌-◌, List, ◌++◌, length, Ok, Err, Result, ◌==◌, nat_lt}
use Rattle.octets.specs.Bits.{pick}
use Rattle.octets.specs.Bytes.{repeat}
use Rattle.format.specs.Opening.{Opened, opened, not_opened}
use Rattle.format.specs.Promise.{Answer, sealed_as, not_sealed}
use Rattle.header.specs.Refusal.{refusal_number}
use Rattle.header.specs.declared.refusal.SealRefusal.{SealRefusal}

-- a length, or a refusal's number
pub data Length : Type 0 where
  no_length : ℕ → Length
  length_is : ℕ → Length

abbrev pub length_told : Result ℕ SealRefusal → Length
length_told (Ok n) = length_is n
length_told (Err e) = no_length (refusal_number e)

abbrev pub message_length : Answer → Length
message_length (sealed_as m) = length_is (length m)
message_length (not_sealed e) = no_length e

-- what sealing answered: the message that the lent bytes hold, or the refusal's number
abbrev pub seal_told : Result (Unit {0}) SealRefusal → List ℕ → Answer
seal_told (Ok x) out = sealed_as out
seal_told (Err e) out = not_sealed (refusal_number e)

-- with so many lent bytes, which have to be as many as the message's: otherwise 1, after every other refusal
abbrev pub sealed_into : ℕ → Answer → Answer
sealed_into room (sealed_as m) = pick (room == length m) (sealed_as m) (not_sealed 1)
sealed_into room (not_sealed e) = not_sealed e

-- after a refusal the lent bytes are as they were
abbrev pub SealKeeps : Result (Unit {0}) SealRefusal → List ℕ → List ℕ → Type 0
SealKeeps (Ok x) old out = Unit {0}
SealKeeps (Err e) old out = out ≡ old

-- with so many lent bytes, of which the message may not have more: otherwise 1, before every other refusal
abbrev pub opened_into : ℕ → List ℕ → Opened → Opened
opened_into room bs answer = pick (nat_lt room (length bs)) (not_opened 1 0) answer

-- what so many lent bytes hold after: the text and zeros, or zeros
abbrev pub left_by : Opened → ℕ → List ℕ
left_by (opened context text) room = text ++ repeat (room - length text) 0
left_by (not_opened number frame) room = repeat room 0

-- what so many lent bytes hold after opening into them
abbrev pub left_in : ℕ → List ℕ → Opened → List ℕ
left_in room bs answer = left_by (opened_into room bs answer) room
