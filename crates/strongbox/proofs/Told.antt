-- What sealing and opening answer and leave, in the words of the promise.
use Rattle.std.specs.Prelude.{◌≡◌, ℕ, ◌-◌, Bool, true, false, cond, List, ◌++◌, length, take, drop, is_ok, Ok, Err, Result, ◌==◌, refl}
use Rattle.std.proofs.Common.{sym, ap, ◌∙◌, true≢false, arith, length-take, take-append-drop}
use Rattle.std.proofs.Math.Nat.{sub-zero}
use Rattle.std.proofs.lemmas.Bool.{eq-eqb, eqb-true}
use Rattle.octets.specs.Bits.{pick}
use Rattle.octets.specs.Bytes.{repeat}
use Rattle.format.specs.Request.{Request, seal_refusal}
use Rattle.format.specs.Message.{message}
use Rattle.format.specs.Promise.{sealed_as, not_sealed, seal_answer}
use Rattle.sealing.specs.Whole.{sealed_message}
use Rattle.sealing.specs.Answers.{MessageLength}
use Rattle.header.specs.Checked.{answer_number}
use Rattle.header.proofs.Refusals.{numbers_positive}
use Rattle.header.specs.declared.refusal.SealRefusal.{SealRefusal}
use Rattle.opening.specs.Answer.{answer, text_len}
use Rattle.opening.specs.declared.message.Opened.{Opened}
use Rattle.opening.specs.declared.refusal.OpenRefusal.{OpenRefusal}
use Rattle.strongbox.specs.Answers.{length_told, message_length, length_is, no_length, seal_told, sealed_into, SealKeeps, left_by}

-- by whether the request is refused, and whether the lent bytes are as many as the message's
told_by : (passed fits : Bool) (m old out : List ℕ) (refusal room : ℕ) (r : Result (Unit {0}) SealRefusal)
    → (refusal == 0) ≡ passed → (room == length m) ≡ fits → answer_number r ≡ pick passed (pick fits 0 1) refusal → out ≡ cond (is_ok r) m old
    → seal_told r out ≡ sealed_into room (pick passed (sealed_as m) (not_sealed refusal))
unfolding pick
told_by true true m old out refusal room (Ok x) p f n e = ap (λ bs. sealed_as bs) e ∙ sym (ap (λ b. pick b (sealed_as m) (not_sealed 1)) f)
told_by true false m old out refusal room (Ok x) p f n e = absurd (omega arith)
told_by false fits m old out refusal room (Ok x) p f n e = absurd (true≢false (sym (eq-eqb refusal 0 (sym n)) ∙ p))
told_by true true m old out refusal room (Err e) p f n k = absurd (numbers_positive e n)
told_by true false m old out refusal room (Err e) p f n k = ap (λ i. not_sealed i) n ∙ sym (ap (λ b. pick b (sealed_as m) (not_sealed 1)) f)
told_by false fits m old out refusal room (Err e) p f n k = ap (λ i. not_sealed i) n

pub told : (m old out : List ℕ) (refusal room : ℕ) (r : Result (Unit {0}) SealRefusal)
    → answer_number r ≡ pick (refusal == 0) (pick (room == length m) 0 1) refusal → out ≡ cond (is_ok r) m old
    → seal_told r out ≡ sealed_into room (pick (refusal == 0) (sealed_as m) (not_sealed refusal))
told m old out refusal room r n e = told_by (refusal == 0) (room == length m) m old out refusal room r refl refl n e

-- the same of a length
length_by : (passed : Bool) (q : Request) (r : Result ℕ SealRefusal) → (seal_refusal q == 0) ≡ passed → answer_number r ≡ seal_refusal q → MessageLength q r
    → length_told r ≡ message_length (pick passed (sealed_as (message q)) (not_sealed (seal_refusal q)))
unfolding pick sealed_message
length_by true q (Ok n) p e l = ap (λ k. length_is k) l
length_by false q (Ok n) p e l = absurd (true≢false (sym (eq-eqb (seal_refusal q) 0 (sym e)) ∙ p))
length_by true q (Err x) p e l = absurd (numbers_positive x (e ∙ eqb-true (seal_refusal q) 0 p))
length_by false q (Err x) p e l = ap (λ k. no_length k) e

pub length_tells : (q : Request) (r : Result ℕ SealRefusal) → answer_number r ≡ seal_refusal q → MessageLength q r → length_told r ≡ message_length (seal_answer q)
unfolding sealed_message
length_tells q r e l = length_by (seal_refusal q == 0) q r refl e l

pub keeps : (m old out : List ℕ) (r : Result (Unit {0}) SealRefusal) → out ≡ cond (is_ok r) m old → SealKeeps r old out
keeps m old out (Ok x) e = tt
keeps m old out (Err x) e = e

-- what is left over of n lent bytes after so much text, or after a refusal, is zeros
pub left : (r : Result Opened OpenRefusal) (out : List ℕ) (n : ℕ) → length out ≡ n → drop (text_len r) out ≡ repeat (n - text_len r) 0 → out ≡ left_by (answer r out) n
left (Ok o) out n l z =
    let e : n - o.len ≡ n - length (take o.len out) = omega (arith, length-take o.len out) in
    sym (take-append-drop o.len out) ∙ ap (λ bs. take o.len out ++ bs) (z ∙ ap (λ k. repeat k 0) e)
left (Err e) out n l z = z ∙ ap (λ k. repeat k 0) (sub-zero n)
