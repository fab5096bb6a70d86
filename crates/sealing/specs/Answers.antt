-- What sealing a whole message answers. These are definitions: they assume nothing.
use Rattle.std.specs.Prelude.{◌≡◌, ℕ, List, [], length, Ok, Err, Result, ◌==◌, nat_le}
use Rattle.octets.specs.Bits.{pick}
use Rattle.format.specs.Request as Rq
use Rattle.format.specs.Request.{seal_refusal}
use Rattle.header.specs.Models.{request_with}
use Rattle.header.specs.Checked.{header_refusal, text_fits}
use Rattle.header.specs.declared.refusal.SealRefusal.{SealRefusal}
use Rattle.header.specs.declared.request.HeaderRequest.{HeaderRequest}
use Rattle.sealing.specs.Whole.{sealed_message, start}

-- the number of the refusal to seal into so many bytes, or 0: first what is wrong with the request, then that they aren't as many as the message's
abbrev pub seal_number : Rq.Request → ℕ → ℕ
seal_number r room = pick (seal_refusal r == 0) (pick (room == length (sealed_message r)) 0 1) (seal_refusal r)

-- why so long a text can't be sealed under a header, whatever its key, or 0
abbrev pub length_number : HeaderRequest → ℕ → ℕ
length_number h text =
    pick (header_refusal (request_with [] h []) == 0) (pick (text_fits text h.frame_length) 0 5) (header_refusal (request_with [] h []))

-- the length of the message, for every key and every text of this length
abbrev pub LengthTold : HeaderRequest → ℕ → Result ℕ SealRefusal → Type 0
LengthTold h text (Ok n) = (key t : List ℕ) → length t ≡ text → n ≡ length (sealed_message (request_with key h t))
LengthTold h text (Err e) = Unit {0}

abbrev pub MessageLength : Rq.Request → Result ℕ SealRefusal → Type 0
MessageLength r (Ok n) = n ≡ length (sealed_message r)
MessageLength r (Err e) = Unit {0}

-- the number of the refusal to write the start of a message into so many bytes, or 0
abbrev pub start_number : List ℕ → HeaderRequest → ℕ → ℕ
start_number key h room =
    pick (length key == 32)
    (pick (header_refusal (request_with [] h []) == 0) (pick (nat_le (length (start (request_with key h []))) room) 0 1) (header_refusal (request_with [] h []))) 2
