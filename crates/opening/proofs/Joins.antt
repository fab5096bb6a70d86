-- The calls of an opener, joined: what they come to together, by induction over the calls.
use Rattle.std.proofs.Common.{◌≡◌, ℕ, zero, suc, List, [], ◌∷◌, ◌++◌, length, take, drop, Ok, Err, Result, sym, ap, ◌∙◌, subst, ⊎_elim, append_assoc}
use Rattle.std.proofs.lemmas.List.{append-nil, drop-append-le}
use Rattle.std.proofs.lemmas.Bool.{cases_Bool}
use Rattle.octets.proofs.Bits.{pick_true, pick_false}
use Rattle.gcm.specs.Key.{key_of}
use Rattle.format.specs.Header.{Header}
use Rattle.format.specs.Reading.{is_empty, read_frame}
use Rattle.format.specs.Request.{Pair}
use Rattle.format.specs.Opening.{open_frames, opened, unseal_frame}
use Rattle.format.proofs.Opening.{last_some, refused_is_opened, with_frame_some, with_text_some}
use Rattle.opening.specs.Unlocked.{Matches}
use Rattle.opening.specs.Answer.{opening}
use Rattle.opening.specs.Opener.{Ends, comes_to, step_len, step_taken}
use Rattle.opening.specs.Joined.{Call, Calls, FramesJoin, after, end_answer, left, texts}
use Rattle.opening.specs.declared.refusal.OpenRefusal.{OpenRefusal}
use Rattle.opening.specs.declared.state.Opener.{Opener}
use Rattle.opening.proofs.Answers.{accounted}

-- what was given out is where the text begins
frames_begin : (k : ℕ) (dk : List ℕ) (h : Header) (n : ℕ) (sofar bs : List ℕ) (c : List Pair) (text : List ℕ) → open_frames k dk h n sofar bs ≡ opened c text → (t : List ℕ) × (sofar ++ t ≡ text)
unfolding open_frames
frames_begin zero dk h n sofar bs c text e = refused_is_opened _ 6 n c text e
frames_begin (suc k) dk h n sofar bs c text e =
    let x = with_frame_some n (read_frame h.frame_length n bs) _ c text e in
    let y = with_text_some n h sofar x.frame (unseal_frame dk h n x.frame) _ c text x.then in
    ⊎_elim (λ l. (y.text, sym (last_some (is_empty x.frame.rest) n h.context c (sofar ++ y.text) text (sym (pick_true x.frame.last _ _ l) ∙ y.then)).2))
    (λ l. let i = frames_begin k dk h (suc n) (sofar ++ y.text) x.frame.rest c text (sym (pick_false x.frame.last _ _ l) ∙ y.then) in (y.text ++ i.0, sym (append_assoc sofar y.text i.0) ∙ i.1))
    (cases_Bool x.frame.last)

begins : (s : Opener) (h : Header) (sofar bs : List ℕ) (c : List Pair) (text : List ℕ) → comes_to s h sofar bs ≡ opened c text → (t : List ℕ) × (sofar ++ t ≡ text)
begins s h sofar bs c text e =
    ⊎_elim (λ d. ([], append-nil sofar ∙ sym (last_some (is_empty bs) s.number h.context c sofar text (sym (pick_true s.done _ _ d) ∙ e)).2))
    (λ d. frames_begin (suc (length bs)) (key_of s.unlocked.cipher.key) h s.number sofar bs c text (sym (pick_false s.done _ _ d) ∙ e)) (cases_Bool s.done)

-- all calls together
joins : (cs : List Call) (s : Opener) (h : Header) (sofar bs : List ℕ) → Matches s.unlocked h → Calls s bs cs → comes_to (after s cs) h (sofar ++ texts cs) (left bs cs) ≡ comes_to s h sofar bs
unfolding Calls after left texts
joins [] s h sofar bs m w = ap (λ l. comes_to s h l bs) (append-nil sofar)
joins (c ∷ cs) s h sofar bs m w =
    let t : List ℕ = take (step_len c.step) c.out in
    let more : List ℕ = w.0.0 in
    let st = w.1 in
    ap (λ l. comes_to (after c.opener cs) h l (left (drop (step_taken c.step) bs) cs)) (sym (append_assoc sofar t (texts cs)))
    ∙ joins cs c.opener h (sofar ++ t) (drop (step_taken c.step) bs) (subst (λ u. Matches u h) (sym st.unlocked) m) w.2
    ∙ ap (λ l. comes_to c.opener h (sofar ++ t) l) (ap (λ l. drop (step_taken c.step) l) (sym w.0.1) ∙ drop-append-le (step_taken c.step) c.lent more st.bytes_fit)
    ∙ st.comes h sofar more m
    ∙ ap (λ l. comes_to s h sofar l) w.0.1

ended : (s : Opener) (h : Header) (sofar : List ℕ) (r : Result (Unit {0}) OpenRefusal) → Matches s.unlocked h → Ends s r → end_answer h.context sofar r ≡ comes_to s h sofar []
ended s h sofar (Ok u) m e = e h sofar
ended s h sofar (Err x) m e = e h sofar m

-- the key is the same one after all calls
matches_after : (cs : List Call) (s : Opener) (h : Header) (bs : List ℕ) → Matches s.unlocked h → Calls s bs cs → Matches (after s cs).unlocked h
unfolding Calls after
matches_after [] s h bs m w = m
matches_after (c ∷ cs) s h bs m w = matches_after cs c.opener h (drop (step_taken c.step) bs) (subst (λ u. Matches u h) (sym w.1.unlocked) m) w.2

pub frames_join : FramesJoin
unfolding FramesJoin
frames_join k bs more s cs b w =
    let h : Header = b.read.header in
    let rest : List ℕ = left (drop s.header_len bs ++ more) cs in
    let whole : comes_to (after s cs) h (texts cs) rest ≡ opening k (bs ++ more) = joins cs s h [] (drop s.header_len bs ++ more) b.matches w ∙ b.comes more in
    let m = matches_after cs s h (drop s.header_len bs ++ more) b.matches w in
    record {
      beginning = λ c text e. begins (after s cs) h (texts cs) rest c text (whole ∙ e);
      refusal = λ lent behind at_end old e s' i r x z. r.comes x h (texts cs) behind m z ∙ ap (λ l. comes_to (after s cs) h (texts cs) l) i ∙ whole;
      end = λ r e z. ended (after s cs) h (texts cs) r m e ∙ ap (λ l. comes_to (after s cs) h (texts cs) l) (sym z) ∙ whole;
      sealed = λ u e z y rs g. accounted rs k (bs ++ more) (texts cs) h.context g y (sym (e h (texts cs) ∙ ap (λ l. comes_to (after s cs) h (texts cs) l) (sym z) ∙ whole));
    }
