-- Calls of one opener, one after another: together they come to what the whole message comes to. These are definitions: they assume nothing.
use Rattle.std.specs.Prelude.{◌≡◌, ℕ, Bool, true, List, [], ◌∷◌, ◌++◌, take, drop, Ok, Err, Result, ◌≢◌}
use Rattle.octets.specs.Bytes.{all_bytes}
use Rattle.format.specs.Request.{Pair, Request}
use Rattle.format.specs.Opening as Opening
use Rattle.format.specs.Opening.{opened}
use Rattle.format.specs.Sealed.{all_good, Accounted}
use Rattle.opening.specs.Refusal.{refused}
use Rattle.opening.specs.Answer.{opening}
use Rattle.opening.specs.Opener.{Begun, Stepped, Refused, Ends, step_len, step_taken}
use Rattle.opening.specs.declared.refusal.OpenRefusal.{OpenRefusal}
use Rattle.opening.specs.declared.refusal.OpenRefusal.TheVariants.{OutTooShort}
use Rattle.opening.specs.declared.state.Opener.{Opener}
use Rattle.opening.specs.declared.state.Step.{Step}

-- a call that wasn't refused: the bytes it was lent, whether it was told that nothing follows, what the bytes lent for the text held before and
-- after, its answer, and the opener after it
pub record Call : Type 0 where
  pub lent : List ℕ
  pub at_end : Bool
  pub old : List ℕ
  pub step : Step
  pub opener : Opener
  pub out : List ℕ

-- the text that was given out, the opener after all calls, and what is left of a message's bytes
unfoldable pub texts : List Call → List ℕ
texts [] = []
texts (c ∷ cs) = take (step_len c.step) c.out ++ texts cs

unfoldable pub after : Opener → List Call → Opener
after s [] = s
after s (c ∷ cs) = after c.opener cs

unfoldable pub left : List ℕ → List Call → List ℕ
left bs [] = bs
left bs (c ∷ cs) = left (drop (step_taken c.step) bs) cs

-- each call is lent bytes of the message from where the one before it stopped, and is as the contract of `next` says
unfoldable pub Calls : Opener → List ℕ → List Call → Type 0
Calls s bs [] = Unit {0}
Calls s bs (c ∷ cs) =
    ((more : List ℕ) × (c.lent ++ more ≡ bs)) × Stepped s c.lent c.at_end c.old c.step c.opener c.out × Calls c.opener (drop (step_taken c.step) bs) cs

-- what `finish` answers, with the text that was given out
abbrev pub end_answer : List Pair → List ℕ → Result (Unit {0}) OpenRefusal → Opening.Opened
end_answer context text (Ok u) = opened context text
end_answer context text (Err e) = refused e

-- begun with bytes bs, after which `more` come: what was given out is a beginning of the text; a refusal of one more call is the message's own;
-- where nothing is left, what `finish` answers is what the message comes to; and what it says is whole was sealed
pub record Joined (k bs more : List ℕ) (context : List Pair) (s : Opener) (cs : List Call) (rest : List ℕ) : Type 0 where
  pub beginning : (c : List Pair) (text : List ℕ) → opening k (bs ++ more) ≡ opened c text → (t : List ℕ) × (texts cs ++ t ≡ text)
  pub refusal : (lent behind : List ℕ) (at_end : Bool) (old : List ℕ) (e : OpenRefusal) (s' : Opener) → lent ++ behind ≡ rest → Refused (after s cs) lent at_end old e s' → (e ≢ OutTooShort) → (at_end ≡ true → behind ≡ [])
      → refused e ≡ opening k (bs ++ more)
  pub end : (r : Result (Unit {0}) OpenRefusal) → Ends (after s cs) r → rest ≡ [] → end_answer context (texts cs) r ≡ opening k (bs ++ more)
  pub sealed : (u : Unit {0}) → Ends (after s cs) (Ok u) → rest ≡ [] → all_bytes (bs ++ more) ≡ true → (rs : List Request) → all_good rs ≡ true → Accounted rs k (bs ++ more) context (texts cs)

unfoldable pub FramesJoin : Type 0
FramesJoin =
    (k bs more : List ℕ) (s : Opener) (cs : List Call) (b : Begun k bs s) → Calls s (drop s.header_len bs ++ more) cs
    → Joined k bs more b.read.header.context s cs (left (drop s.header_len bs ++ more) cs)
