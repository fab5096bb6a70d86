-- What opening a whole message answers and leaves. These are definitions: they assume nothing.
use Rattle.std.specs.Prelude.{ℕ, List, length, take, Ok, Err, Result, nat_lt}
use Rattle.octets.specs.Bits.{pick}
use Rattle.format.specs.Request.{Request}
use Rattle.format.specs.Sealed.{Accounted}
use Rattle.format.specs.Opening as Opening
use Rattle.format.specs.Opening.{opened, not_opened, open_message}
use Rattle.header_read.specs.Parts.{pairs_in}
use Rattle.opening.specs.Refusal.{refused}
use Rattle.opening.specs.declared.refusal.OpenRefusal.{OpenRefusal}
use Rattle.opening.specs.declared.message.Opened.{Opened}

-- an answer, with what the lent bytes hold
abbrev pub answer : Result Opened OpenRefusal → List ℕ → Opening.Opened
answer (Ok o) out = opened (pairs_in o.context) (take o.len out)
answer (Err e) out = refused e

-- how many of the lent bytes are text
abbrev pub text_len : Result Opened OpenRefusal → ℕ
text_len (Ok o) = o.len
text_len (Err e) = 0

-- what a message comes to, kept shut
unfoldable pub opening : List ℕ → List ℕ → Opening.Opened
opening k bs = open_message k bs

-- with so many lent bytes: 1 where they are fewer than the message's
abbrev pub open_answer : ℕ → List ℕ → List ℕ → Opening.Opened
open_answer room k bs = pick (nat_lt room (length bs)) (not_opened 1 0) (opening k bs)

-- a message that opened was sealed, by one of these requests, as it is; or a forged piece, an id used twice or two keys that come to the same are shown
abbrev pub Accounts : List Request → List ℕ → List ℕ → Result Opened OpenRefusal → List ℕ → Type 0
Accounts rs k bs (Ok o) out = Accounted rs k bs (pairs_in o.context) (take o.len out)
Accounts rs k bs (Err e) out = Unit {0}
