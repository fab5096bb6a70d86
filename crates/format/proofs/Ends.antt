-- A message that opens ends where it ends: nothing that goes on after it opens with the same key, and no beginning of it does.
use Rattle.std.proofs.Common.{◌≡◌, ℕ, zero, suc, ◌<◌, ◌≤◌, false, List, [], ◌++◌, length, sym, ap, ◌∙◌, ⊎_elim, arith, length-append}
use Rattle.std.proofs.lemmas.Bool.{cases_Bool, ne_eqb}
use Rattle.octets.specs.Bytes.{bytes_eq, drop, take}
use Rattle.octets.proofs.Bits.{pick_false, pick_true}
use Rattle.octets.proofs.Lists.{length-drop, take-drop}
use Rattle.hkdf.specs.MessageKeys.{commitment, sealing_key}
use Rattle.format.specs.Header.{Header}
use Rattle.format.specs.Opening.{header_tag_right, not_opened, open_frames, open_message, opened, unseal_frame, with_header}
use Rattle.format.specs.Reading.{ReadFrame, ReadHeader, is_empty, read_frame, read_header}
use Rattle.format.specs.Request.{Pair}
use Rattle.format.specs.Statements.{GoingOnIsRefused, NoBeginningOpens, NothingLessOrMore}
use Rattle.format.proofs.Further.{frame_grows, frame_on, header_grows}
use Rattle.format.proofs.Opening.{open_read, open_step, picked_opened, refused_is_opened, with_frame_some, with_header_some, with_text_some}

module _ (cs : List ℕ) (more : 0 < length cs) where
  something_left : (rest : List ℕ) → is_empty (rest ++ cs) ≡ false
  something_left rest = ne_eqb (length (rest ++ cs)) 0 (λ e. omega (arith, length-append rest cs))

  -- the same frames open, and after the final one something is left
  frames_go_on : (k j : ℕ) (dk : List ℕ) (h : Header) (n : ℕ) (sofar bs text : List ℕ) (context : List Pair) → k ≤ j → open_frames k dk h n sofar bs ≡ opened context text
      → (m : ℕ) × (open_frames j dk h n sofar (bs ++ cs) ≡ not_opened 8 m)
  unfolding open_frames
  frames_go_on zero j dk h n sofar bs text context hj e = refused_is_opened _ 6 n context text e
  frames_go_on (suc k) zero dk h n sofar bs text context hj e = absurd (omega arith)
  frames_go_on (suc k) (suc j) dk h n sofar bs text context hj e =
      let x = with_frame_some n (read_frame h.frame_length n bs) _ context text e in
      let f : ReadFrame = x.frame in
      let y = with_text_some n h sofar f (unseal_frame dk h n f) _ context text x.then in
      let step = open_step j dk h n sofar (bs ++ cs) (frame_on cs f) y.text y.more (frame_grows cs h.frame_length n bs f x.more x.here) y.here in
      ⊎_elim (λ l. (n, step ∙ (pick_true f.last _ _ l ∙ pick_false (is_empty (f.rest ++ cs)) _ _ (something_left f.rest))))
      (λ l. let i = frames_go_on k j dk h (suc n) (sofar ++ y.text) f.rest text context (omega arith) (sym (pick_false f.last _ _ l) ∙ y.then) in (i.0, step ∙ (pick_false f.last _ _ l ∙ i.1)))
      (cases_Bool f.last)

pub going_on_is_refused : GoingOnIsRefused
unfolding GoingOnIsRefused with_header
going_on_is_refused k bs cs text context e more =
    let o = with_header_some (read_header bs) (open_read k) context text e in
    let x : ReadHeader = o.found in
    let dk : List ℕ = sealing_key k x.header.id in
    let p = picked_opened (bytes_eq (commitment k x.header.id) x.header.commitment) _ 4 0 context text o.then in
    let q = picked_opened (header_tag_right dk x) _ 5 0 context text p.1 in
    let l = length-append x.rest cs in
    let f = frames_go_on cs more (suc (length x.rest)) (suc (length (x.rest ++ cs))) dk x.header 1 [] x.rest text context (omega arith) q.1 in (
      f.0,
      ap (λ xs. with_header xs (open_read k)) (header_grows cs bs x o.more o.here)
          ∙ (pick_true (bytes_eq (commitment k x.header.id) x.header.commitment) _ _ p.0 ∙ (pick_true (header_tag_right dk x) _ _ q.0 ∙ f.1)),
    )

pub nothing_less_or_more : NothingLessOrMore
unfolding NothingLessOrMore GoingOnIsRefused
nothing_less_or_more k bs cs text other context ctx e more f = let g = going_on_is_refused k bs cs text context e more in refused_is_opened ⊥ 8 g.0 ctx other (sym g.1 ∙ f)

pub no_beginning_opens : NoBeginningOpens
unfolding NoBeginningOpens NothingLessOrMore
no_beginning_opens k bs text other context ctx n e h f =
    nothing_less_or_more k (take n bs) (drop n bs) other text ctx context f (omega (arith, length-drop n bs)) (ap (λ xs. open_message k xs) (take-drop n bs) ∙ e)
