-- The numbers of refusals, where what they hang on is known.
use Rattle.std.proofs.Common.{◌≡◌, ℕ, ◌<◌, ◌≤◌, Bool, true, false, eqb, List, [], length, Some, None, Ok, Err, Option, Result, sym, refl, ap, ◌∙◌, ⊎_elim, arith, cond}
use Rattle.std.proofs.lemmas.Bool.{eq-eqb, ne_eqb, le-leb, lt-leb, eqb-true, eqb-false, cases_Bool, cond-true}
use Rattle.std.specs.Prelude.{IsOk}
use Rattle.std.specs.Option.{ok_or}
use Rattle.octets.specs.Bits.{pick}
use Rattle.octets.proofs.Bits.{pick_true, pick_false}
use Rattle.format.specs.Request as Rq
use Rattle.format.specs.Request.{seal_refusal}
use Rattle.header.specs.Models.{request_with}
use Rattle.header.specs.Checked.{answer_number, array_32, header_refusal, text_fits}
use Rattle.header.specs.declared.refusal.SealRefusal.{SealRefusal}
use Rattle.header.specs.declared.refusal.SealRefusal.TheVariants.{KeyOrIdOrFrameLength}
use Rattle.header.specs.declared.request.HeaderRequest.{HeaderRequest}
use Rattle.header.proofs.Refusals.{numbers_positive, refusal_by_parts}
use Rattle.sealing.specs.Whole.{sealed_message, start}
use Rattle.sealing.specs.Answers.{seal_number, length_number, LengthTold, MessageLength, start_number}

-- of a refusal number, what comes before and after it
passes_on : (n a : ℕ) → n ≡ 0 → pick (eqb n 0) a n ≡ a
passes_on n a e = pick_true _ _ _ (eq-eqb n 0 e)

stops : (n a : ℕ) → (n ≡ 0 → ⊥) → pick (eqb n 0) a n ≡ n
stops n a z = pick_false _ _ _ (ne_eqb n 0 z)

parts_of_zero : (k : Bool) (n : ℕ) (t : Bool) → ◌≡◌ {A = ℕ} (pick k (pick (eqb n 0) (pick t 0 5) n) 2) 0 → (n ≡ 0) × (t ≡ true)
unfolding pick
parts_of_zero false n t e = absurd (omega arith)
parts_of_zero true n t e = ⊎_elim (λ b. (eqb-true n 0 b, right t (sym (pick_true (eqb n 0) (pick t 0 5) n b) ∙ e))) (λ b. absurd (eqb-false n 0 b (sym (pick_false (eqb n 0) (pick t 0 5) n b) ∙ e))) (cases_Bool (eqb n 0))
  where
    right : (t : Bool) → ◌≡◌ {A = ℕ} (pick t 0 5) 0 → t ≡ true
    right true e = refl
    right false e = absurd (omega arith)

-- a request that isn't refused
pub passed_parts : (r : Rq.Request) → seal_refusal r ≡ 0 → (header_refusal r ≡ 0) × (text_fits (length r.text) r.frame_length ≡ true)
passed_parts r e = parts_of_zero (eqb (length r.key) 32) (header_refusal r) (text_fits (length r.text) r.frame_length) (sym (refusal_by_parts r) ∙ e)

-- an answer whose number is 0 is no refusal
pub ok_of_zero : {A : Type 0} (r : Result A SealRefusal) → answer_number r ≡ 0 → IsOk r
ok_of_zero (Ok a) e = refl
ok_of_zero (Err e) z = absurd (numbers_positive e z)

-- sealing
pub seal_refused : (r : Rq.Request) (room n : ℕ) → n ≡ seal_refusal r → (n ≡ 0 → ⊥) → n ≡ seal_number r room
seal_refused r room n e z = e ∙ sym (stops (seal_refusal r) _ (λ w. z (e ∙ w)))

pub seal_wrong_room : (r : Rq.Request) (room : ℕ) → seal_refusal r ≡ 0 → (room ≡ length (sealed_message r) → ⊥) → 1 ≡ seal_number r room
seal_wrong_room r room e z = sym (passes_on (seal_refusal r) _ e ∙ pick_false _ _ _ (ne_eqb room (length (sealed_message r)) z))

pub seal_passes : (r : Rq.Request) (room : ℕ) → seal_refusal r ≡ 0 → room ≡ length (sealed_message r) → 0 ≡ seal_number r room
seal_passes r room e l = sym (passes_on (seal_refusal r) _ e ∙ pick_true _ _ _ (eq-eqb room (length (sealed_message r)) l))

-- lengths
pub length_refused : (h : HeaderRequest) (text n : ℕ) → n ≡ header_refusal (request_with [] h []) → (n ≡ 0 → ⊥) → n ≡ length_number h text
length_refused h text n e z = e ∙ sym (stops (header_refusal (request_with [] h [])) _ (λ w. z (e ∙ w)))

pub length_by_text : (h : HeaderRequest) (text : ℕ) (b : Bool) → 0 ≡ header_refusal (request_with [] h []) → b ≡ text_fits text h.frame_length → pick b 0 5 ≡ length_number h text
length_by_text h text b e t = ap (λ v. pick v 0 5) t ∙ sym (passes_on (header_refusal (request_with [] h [])) _ (sym e))

pub length_is_refusal : (key : List ℕ) (h : HeaderRequest) (t : List ℕ) → length key ≡ 32 → length_number h (length t) ≡ seal_refusal (request_with key h t)
length_is_refusal key h t k = sym (refusal_by_parts (request_with key h t) ∙ pick_true _ _ _ (eq-eqb (length key) 32 k))

pub key_is_refused : (key : List ℕ) (h : HeaderRequest) (t : List ℕ) → (length key ≡ 32 → ⊥) → 2 ≡ seal_refusal (request_with key h t)
key_is_refused key h t k = sym (refusal_by_parts (request_with key h t) ∙ pick_false _ _ _ (ne_eqb (length key) 32 k))

pub length_told : (key : List ℕ) (h : HeaderRequest) (t : List ℕ) (r : Result ℕ SealRefusal) → LengthTold h (length t) r → MessageLength (request_with key h t) r
length_told key h t (Ok n) f = f key t refl
length_told key h t (Err e) f = tt

-- beginning
pub not_32 : (bs : List ℕ) → None ≡ array_32 bs → length bs ≡ 32 → ⊥
not_32 bs e k = let h : ◌≡◌ {A = Option (List ℕ)} None (Some bs) = e ∙ cond-true _ _ _ (eq-eqb (length bs) 32 k) in let z : ◌≡◌ {A = ℕ} 0 1 = cc in omega arith

pub start_key : (key : List ℕ) (h : HeaderRequest) (room : ℕ) → (length key ≡ 32 → ⊥) → 2 ≡ start_number key h room
start_key key h room k = sym (pick_false _ _ _ (ne_eqb (length key) 32 k))

pub start_no_key : {A : Type 0} (key : List ℕ) (h : HeaderRequest) (room : ℕ) (k : Option (List ℕ)) (e x : SealRefusal) (r : Result A SealRefusal)
    → k ≡ array_32 key → ◌≡◌ {A = Result (List ℕ) SealRefusal} (Err e) (ok_or k KeyOrIdOrFrameLength) → r ≡ Err x → x ≡ e → answer_number r ≡ start_number key h room
start_no_key key h room None e x r p q s t = let is : x ≡ KeyOrIdOrFrameLength = cc in rw (s, is) (start_key key h room (not_32 key p))
start_no_key key h room (Some k) e x r p q s t = absurd (let z : ◌≡◌ {A = ℕ} 0 1 = cc in omega arith)

pub start_refused : (key : List ℕ) (h : HeaderRequest) (room n : ℕ) → length key ≡ 32 → n ≡ header_refusal (request_with [] h []) → (n ≡ 0 → ⊥) → n ≡ start_number key h room
start_refused key h room n k e z = e ∙ sym (pick_true _ _ _ (eq-eqb (length key) 32 k) ∙ stops (header_refusal (request_with [] h [])) _ (λ w. z (e ∙ w)))

pub start_no_room : (key : List ℕ) (h : HeaderRequest) (room : ℕ) → length key ≡ 32 → 0 ≡ header_refusal (request_with [] h []) → room < length (start (request_with key h [])) → 1 ≡ start_number key h room
start_no_room key h room k e l =
    sym (pick_true _ _ _ (eq-eqb (length key) 32 k) ∙ passes_on (header_refusal (request_with [] h [])) _ (sym e) ∙ pick_false _ _ _ (lt-leb (length (start (request_with key h []))) room l))

pub start_passes : (key : List ℕ) (h : HeaderRequest) (room : ℕ) → length key ≡ 32 → 0 ≡ header_refusal (request_with [] h []) → length (start (request_with key h [])) ≤ room → 0 ≡ start_number key h room
start_passes key h room k e l =
    sym (pick_true _ _ _ (eq-eqb (length key) 32 k) ∙ passes_on (header_refusal (request_with [] h [])) _ (sym e) ∙ pick_true _ _ _ (le-leb (length (start (request_with key h []))) room l))

-- a frame that has no room
pub no_room : {E : Type 0} (a b c d : Bool) (e f g i : E) → a ≡ false → b ≡ true → c ≡ true → false ≡ d → ◌≡◌ {A = Result (Unit {0}) E} (Err f) (cond a (Err e) (cond b (cond c (cond d (Ok tt) (Err f)) (Err g)) (Err i)))
no_room a b c d e f g i p q r s = simp (p, q, r, sym s)
