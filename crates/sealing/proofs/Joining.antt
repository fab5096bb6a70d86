-- What the calls of a sealer wrote, joined, is the message: by induction over the calls.
use Rattle.std.proofs.Common.{◌≡◌, ℕ, suc, ◌+◌, ◌-◌, ◌*◌, ◌<◌, ◌≤◌, Bool, true, false, cond, ◌&&◌, ◌||◌, eqb, ltb, leb, List, [], ◌∷◌, ◌++◌, length, Ok, Err, Result, sym, refl, ap, ◌∙◌, ap₂, ⊎_elim, append_assoc, add-mul, arith, length-append}
use Rattle.std.proofs.lemmas.Bool.{and_parts, or_cases, eqb-true, leb-true, ltb-true}
use Rattle.octets.specs.Bits.{pick}
use Rattle.gcm.specs.Key.{key_of}
use Rattle.format.specs.Request.{seal_refusal}
use Rattle.format.specs.Message.{frames}
use Rattle.frames.specs.Frame.{final_frame}
use Rattle.header.specs.Models.{request_with}
use Rattle.header.specs.Checked.{text_fits}
use Rattle.header.specs.declared.request.HeaderRequest.{HeaderRequest}
use Rattle.header.proofs.Refusals.{refused_by_text, header_passed}
use Rattle.sealing.specs.Calls.{Begun, text_before, regular_answer, final_answer, Call, Calls, sealer_after, texts, frames_written, CallsMakeTheMessage}
use Rattle.sealing.specs.declared.state.Sealer.{Sealer}
use Rattle.sealing.proofs.Frames.{frames_last, frames_join}
use Rattle.sealing.proofs.Messages.{message_is, start_any_text}

-- what a call that went well was asked
refused_is_not_ok : {E : Type 0} (B : Type 0) (e : E) → ◌≡◌ {A = Result (Unit {0}) E} (Err e) (Ok tt) → B
refused_is_not_ok B e p = absurd (let z : ◌≡◌ {A = ℕ} 0 1 = cc in omega arith)

pub record Accepted (a b c d : Bool) : Type 0 where
  pub first : a ≡ false
  pub second : b ≡ true
  pub third : c ≡ true
  pub fourth : d ≡ true

accepted : {E : Type 0} (a b c d : Bool) (e f g i : E) → ◌≡◌ {A = Result (Unit {0}) E} (cond a (Err e) (cond b (cond c (cond d (Ok tt) (Err f)) (Err g)) (Err i))) (Ok tt) → Accepted a b c d
accepted true b c d e f g i p = refused_is_not_ok _ e p
accepted false false c d e f g i p = refused_is_not_ok _ i p
accepted false true false d e f g i p = refused_is_not_ok _ g p
accepted false true true false e f g i p = refused_is_not_ok _ f p
accepted false true true true e f g i p = record { first = refl; second = refl; third = refl; fourth = refl }

regular_asked : (s : Sealer) (text room : ℕ) → regular_answer s text room ≡ Ok tt → text ≡ s.frame_length
regular_asked s text room e =
    eqb-true text s.frame_length
    (accepted s.finished (eqb text s.frame_length) (ltb s.number 4294967295 && text_fits (text_before s + text) s.frame_length) (eqb room (text + 32)) _ _ _ _ e).second

pub record FinalAsked (s : Sealer) (text : ℕ) : Type 0 where
  pub short : text ≤ s.frame_length
  pub some : 1 < s.number → 0 < text
  pub fits : text_fits (text_before s + text) s.frame_length ≡ true

final_asked : (s : Sealer) (text room : ℕ) → final_answer s text room ≡ Ok tt → FinalAsked s text
final_asked s text room e =
    let a = accepted s.finished (leb text s.frame_length && (ltb 0 text || eqb s.number 1)) (text_fits (text_before s + text) s.frame_length) (eqb room (text + 40)) _ _ _ _ e in
    let p = and_parts (leb text s.frame_length) (ltb 0 text || eqb s.number 1) a.second in
    record {
      short = leb-true text s.frame_length p.0;
      some = λ h. ⊎_elim (λ l. ltb-true 0 text l) (λ n. absurd (omega (arith, eqb-true s.number 1 n))) (or_cases (ltb 0 text) (eqb s.number 1) p.1);
      fits = a.third;
    }

-- the frame length stays, and the text so far grows by each call's
length_stays : (s : Sealer) (cs : List Call) → Calls s cs → (sealer_after s cs).frame_length ≡ s.frame_length
unfolding Calls sealer_after
length_stays s [] h = refl
length_stays s (c ∷ cs) h = length_stays c.after cs h.2 ∙ h.1.frame_length

text_grows : (n k : ℕ) → 0 < n → (n + 1 - 1) * k ≡ (n - 1) * k + k
text_grows n k p =
    let e : n + 1 - 1 ≡ n - 1 + 1 = omega arith in
    let m = add-mul (n - 1) 1 k in
    ap (λ i. i * k) e ∙ omega arith

text_is : (s : Sealer) (cs : List Call) → 0 < s.number → Calls s cs → text_before (sealer_after s cs) ≡ text_before s + length (texts cs)
unfolding Calls sealer_after texts
text_is s [] p h = omega arith
text_is s (c ∷ cs) p h =
    let f = h.1 in
    let long = regular_asked s (length c.text) c.room h.0 in
    let ih = text_is c.after cs (let n = f.number in omega arith) h.2 in
    let sum = length-append c.text (texts cs) in
    let step : text_before c.after ≡ text_before s + s.frame_length = ap₂ (λ n k. (n - 1) * k) f.number f.frame_length ∙ text_grows s.number s.frame_length p in
    omega arith

-- after a regular frame there is text to come
some_text : (s : Sealer) (cs : List Call) (text : List ℕ) (room : ℕ) → 0 < s.frame_length → 1 < s.number → Calls s cs → final_answer (sealer_after s cs) (length text) room ≡ Ok tt → 0 < length (texts cs ++ text)
unfolding Calls sealer_after texts
some_text s [] text room p n h e = (final_asked s (length text) room e).some n
some_text s (c ∷ cs) text room p n h e =
    let long = regular_asked s (length c.text) c.room h.0 in
    omega (arith, length-append (c.text ++ texts cs) text, length-append c.text (texts cs))

same_frames : (k : ℕ) (t key key' id id' : List ℕ) (size size' n n' : ℕ) → key ≡ key' → id ≡ id' → size ≡ size' → n ≡ n' → frames k key id size n t ≡ frames k key' id' size' n' t
same_frames k t key key' id id' size size' n n' p q r s = ap₂ (λ a b. frames k a b size n t) p q ∙ ap₂ (λ a b. frames k key' id' a b t) r s

joined : (cs : List Call) (s : Sealer) (text out : List ℕ) (room : ℕ) → 0 < s.frame_length → 0 < s.number → Calls s cs → final_answer (sealer_after s cs) (length text) room ≡ Ok tt
    → out ≡ final_frame (key_of (sealer_after s cs).cipher.key) (sealer_after s cs).cipher.id (sealer_after s cs).number text
    → frames_written cs ++ out ≡ frames (suc (length (texts cs ++ text))) (key_of s.cipher.key) s.cipher.id s.frame_length s.number (texts cs ++ text)
unfolding Calls sealer_after texts frames_written
joined [] s text out room p n h e f = f ∙ frames_last (length text) (key_of s.cipher.key) s.cipher.id text s.frame_length s.number (final_asked s (length text) room e).short
joined (c ∷ cs) s text out room p n h e f =
    let g = h.1 in
    let gl = g.frame_length in
    let gn = g.number in
    let rest : List ℕ = texts cs ++ text in
    let some = some_text c.after cs text room (omega arith) (omega arith) h.2 e in
    let ih = joined cs c.after text out room (omega arith) (omega arith) h.2 e f ∙ same_frames (suc (length rest)) rest _ _ _ _ _ _ _ _ g.cipher g.id g.frame_length g.number in
    append_assoc c.written (frames_written cs) out
    ∙ ap₂ (λ a b. a ++ b) g.frame ih
    ∙ frames_join (key_of s.cipher.key) s.cipher.id c.text rest s.frame_length s.number p (regular_asked s (length c.text) c.room h.0) some
    ∙ ap (λ l. frames (suc (length l)) (key_of s.cipher.key) s.cipher.id s.frame_length s.number l) (sym (append_assoc c.text (texts cs) text))

not_refused : (key : List ℕ) (h : HeaderRequest) (s : Sealer) (cs : List Call) (text : List ℕ) (room : ℕ) → Begun key h s → Calls s cs → final_answer (sealer_after s cs) (length text) room ≡ Ok tt
    → seal_refusal (request_with key h (texts cs ++ text)) ≡ 0
unfolding pick
not_refused key h s cs text room b cs-ok e =
    let n = b.number in
    let sum : text_before (sealer_after s cs) + length text ≡ length (texts cs ++ text) =
    (let i = text_is s cs (omega arith) cs-ok in
    let z : text_before s ≡ 0 = ap (λ m. (m - 1) * s.frame_length) n ∙ omega arith in
    omega (arith, length-append (texts cs) text)) in
    let fits : text_fits (length (texts cs ++ text)) h.frame_length ≡ true =
    ap₂ (λ a l. text_fits a l) (sym sum) (sym (length_stays s cs cs-ok ∙ b.frame_length)) ∙ (final_asked (sealer_after s cs) (length text) room e).fits in
    sym (refused_by_text (request_with key h (texts cs ++ text)) true b.key_long (sym b.passed) (sym fits))

pub calls_make_the_message : CallsMakeTheMessage
unfolding CallsMakeTheMessage
calls_make_the_message key h s end cs text out room b cs-ok e f =
    let r = request_with key h (texts cs ++ text) in
    let passed = header_passed (request_with key h (texts cs ++ text)) (sym b.passed) in
    let some = passed.frame_length in
    let fl = b.frame_length in
    let n = b.number in (
      not_refused key h s cs text room b cs-ok e,
      ap₂ (λ a l. a ++ l) (start_any_text key h [] (texts cs ++ text))
          (joined cs s text out room (omega arith) (omega arith) cs-ok e f.frame ∙ same_frames (suc (length (texts cs ++ text))) (texts cs ++ text) _ _ _ _ _ _ _ _ b.cipher b.id b.frame_length b.number)
          ∙ message_is (request_with key h (texts cs ++ text)),
    )
