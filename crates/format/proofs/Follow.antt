-- Frames that open, each of them sealed by one request: they are that request's, one after another.
use Rattle.std.proofs.Common.{◌≡◌, ℕ, zero, suc, ◌+◌, ◌-◌, ◌<◌, ◌≤◌, Bool, true, false, ltb, ◌⊎◌, List, [], ◌∷◌, ◌++◌, length, sym, refl, ap, ◌∙◌, subst, ap₂, inl, inr, ⊎_elim, append_assoc, arith}
use Rattle.std.proofs.lemmas.List.{append-nil, nil_from_length}
use Rattle.std.proofs.lemmas.Bool.{eqb-true, ltb-true}
use Rattle.std.specs.List.{AllByRecursion as All}
use Rattle.octets.specs.Bits.{pick}
use Rattle.octets.specs.Bytes.{all_bytes, bytes_eq, drop, take, to_bytes}
use Rattle.octets.specs.Cut.{and_then}
use Rattle.octets.proofs.Bits.{pick_false, pick_true}
use Rattle.octets.proofs.Lists.{length-drop, take-drop}
use Rattle.octets.proofs.Numbers.{all_bytes-drop, all_bytes_parts, all_bytes-take, bytes_eq_true}
use Rattle.aes256.specs.Aes.{round_keys}
use Rattle.aes256.proofs.Lengths.{length-round_keys}
use Rattle.gcm.specs.Gcm.{Sealed, ctr, seal, tag_of, unseal}
use Rattle.gcm.proofs.Undo.{ctr_twice}
use Rattle.format.specs.Header.{Header}
use Rattle.format.specs.Message.{frame_pieces, frames}
use Rattle.format.specs.Opening.{frames_in, open_frames, opened, unseal_frame}
use Rattle.format.specs.Piece.{Piece, final_bytes, frame_aad, frame_bytes, frame_piece, seal_frame}
use Rattle.format.specs.Reading.{ReadFrame, is_empty, read_frame}
use Rattle.format.specs.Request.{Pair}
use Rattle.format.specs.Sealed.{TagRight}
use Rattle.format.proofs.Fields.{context_body}
use Rattle.format.proofs.Frames.{FrameRead, frame_read, frame_written}
use Rattle.format.proofs.Opening.{after, frames_last, frames_more, last_some, refused_is_opened, with_frame_some, with_text_some}
use Rattle.format.proofs.Pieces.{In, Numbered, aad_is, all_both, in_all, number_is, numbered_in, numbered_of}
use Rattle.format.proofs.Steps.{none_is_one}

-- what was sealed opens to its text, whatever is said beside
picked : (b : Bool) (x u : List ℕ) (us : List (List ℕ)) → pick b (x ∷ []) [] ≡ u ∷ us → x ≡ u
unfolding pick
picked true x u us e = cc
picked false x u us e = none_is_one _ u us e

unsealed : (key nonce aad context_body t u : List ℕ) (us : List (List ℕ)) (s : Sealed) → length key ≡ 32 → all_bytes t ≡ true
    → s ≡ seal key nonce context_body t → unseal key nonce aad s ≡ u ∷ us → u ≡ t
unsealed key nonce aad context_body t u us s lk bt es e =
    let ks : List ℕ = round_keys key in
    sym (picked (bytes_eq (tag_of ks nonce aad s.ciphertext) s.tag) (ctr ks nonce s.ciphertext) u us e)
    ∙ (ap (λ (x : Sealed). ctr ks nonce x.ciphertext) es ∙ ctr_twice ks nonce t (length-round_keys key lk) bt)

-- the pieces of frames that opened have their right tags
unsealed_tag_right : (b : Bool) (x u : List ℕ) (us : List (List ℕ)) → pick b (x ∷ []) [] ≡ u ∷ us → b ≡ true
unfolding pick
unsealed_tag_right true x u us e = refl
unsealed_tag_right false x u us e = none_is_one _ u us e

pub frames_tags_right : (k : ℕ) (dk : List ℕ) (h : Header) (n : ℕ) (sofar bs text : List ℕ) (c : List Pair) → open_frames k dk h n sofar bs ≡ opened c text → All TagRight (frames_in k dk h n bs)
unfolding open_frames frames_in and_then pick
frames_tags_right zero dk h n sofar bs text c e = tt
frames_tags_right (suc k) dk h n sofar bs text c e =
    let x = with_frame_some n (read_frame h.frame_length n bs) _ c text e in
    let f : ReadFrame = x.frame in
    let y = with_text_some n h sofar f (unseal_frame dk h n f) _ c text x.then in
    let ks : List ℕ = round_keys dk in
    let nonce : List ℕ = to_bytes 12 n in
    let tag : List ℕ = tag_of ks nonce (frame_aad h.id f.last n (length f.sealed.ciphertext)) f.sealed.ciphertext in
    let here : tag ≡ f.sealed.tag = bytes_eq_true tag f.sealed.tag (unsealed_tag_right (bytes_eq tag f.sealed.tag) (ctr ks nonce f.sealed.ciphertext) y.text y.more y.here) in
    subst (λ xs. All TagRight (and_then xs (λ g. frame_piece dk h.id g.last n g.sealed ∷ pick g.last [] (frames_in k dk h (suc n) g.rest)))) (sym x.here) (
      here,
      rest f.last (frames_in k dk h (suc n) f.rest) (λ l. frames_tags_right k dk h (suc n) (sofar ++ y.text) f.rest text c (sym (pick_false f.last _ _ l) ∙ y.then)) refl,
    )
  where
    rest : (b : Bool) (ps : List Piece) {d : Bool} → (d ≡ false → All TagRight ps) → d ≡ b → All TagRight (pick b [] ps)
    rest true ps a e = tt
    rest false ps a e = a e

pieces_more : (m : ℕ) (dk id : List ℕ) (size n : ℕ) (t : List ℕ) → ltb size (length t) ≡ true
    → frame_pieces (suc m) dk id size n t ≡ frame_piece dk id false n (seal_frame dk id false n (take size t)) ∷ frame_pieces m dk id size (suc n) (drop size t)
unfolding frame_pieces
pieces_more m dk id size n t h = pick_true (ltb size (length t)) _ _ h

-- the piece with the first number is the first
abbrev This : List ℕ → List ℕ → ℕ → Bool → ℕ → Sealed → List ℕ → Type 0
This dk id size last n s t =
    ((ltb size (length t) ≡ true) × (last ≡ false) × (s ≡ seal_frame dk id false n (take size t)))
    ⊎ ((ltb size (length t) ≡ false) × (last ≡ true) × (s ≡ seal_frame dk id true n t))

first_is : (dk id : List ℕ) (size : ℕ) (last : Bool) (n m : ℕ) (s : Sealed) (t : List ℕ) → length id ≡ 32 → n + suc m ≤ 18446744073709551616
    → In (frame_piece dk id last n s) (frame_pieces (suc m) dk id size n t) → This dk id size last n s t
unfolding frame_pieces pick
first_is dk id size last n m s t li h a = go (ltb size (length t)) refl a
  where
    p : Piece
    p = frame_piece dk id last n s

    rest : List Piece
    rest = frame_pieces m dk id size (suc n) (drop size t)

    go : (b : Bool) → ltb size (length t) ≡ b
        → In p (pick b (frame_piece dk id false n (seal_frame dk id false n (take size t)) ∷ rest) (frame_piece dk id true n (seal_frame dk id true n t) ∷ []))
        → This dk id size last n s t
    go true e (inl q) = inl (e, (aad_is id id last false n n _ _ li li (ap (λ x. x.aad) q)).1, ap (λ x. x.sealed) q)
    go true e (inr i) =
        absurd (let k : suc n ≤ n = number_is dk id (suc n) p n (omega arith) (in_all (Numbered dk id (suc n)) p rest (numbered_of m dk id size (suc n) (drop size t) (omega arith)) i) refl in omega arith)
    go false e (inl q) = inr (e, (aad_is id id last true n n _ _ li li (ap (λ x. x.aad) q)).1, ap (λ x. x.sealed) q)
    go false e (inr i) = absurd i

-- a piece with a later number is one of the others
later_in : (dk id : List ℕ) (size n m : ℕ) (t : List ℕ) (p : Piece) → n < 18446744073709551616 → ltb size (length t) ≡ true
    → Numbered dk id (suc n) p → In p (frame_pieces (suc m) dk id size n t) → In p (frame_pieces m dk id size (suc n) (drop size t))
later_in dk id size n m t p h b a i = go (subst (In p) (pieces_more m dk id size n t b) i)
  where
    go : In p (frame_piece dk id false n (seal_frame dk id false n (take size t)) ∷ frame_pieces m dk id size (suc n) (drop size t)) → In p (frame_pieces m dk id size (suc n) (drop size t))
    go (inl q) = absurd (let k : suc n ≤ n = number_is dk id (suc n) p n h a (ap (λ x. x.nonce) q) in omega arith)
    go (inr j) = j

-- the frames from a number on
pub record Follows (dk : List ℕ) (h : Header) (m n : ℕ) (sofar bs t text : List ℕ) (c : List Pair) : Type 0 where
  pub frames_are : bs ≡ frames m dk h.id h.frame_length n t
  pub text_is : text ≡ sofar ++ t
  pub context_is : c ≡ h.context

module _ (dk : List ℕ) (h : Header) (lk : length dk ≡ 32) (li : length h.id ≡ 32) (hs : 0 < h.frame_length) where
  at_last : (k m n : ℕ) (sofar bs t text : List ℕ) (c : List Pair) (f : ReadFrame) (u : List ℕ) (us : List (List ℕ)) → all_bytes t ≡ true → FrameRead n bs f
      → unseal_frame dk h n f ≡ u ∷ us → after n h sofar f (λ v. open_frames k dk h (suc n) (sofar ++ v) f.rest) u ≡ opened c text
      → ltb h.frame_length (length t) ≡ false → f.last ≡ true → f.sealed ≡ seal_frame dk h.id true n t → Follows dk h (suc m) n sofar bs t text c
  at_last k m n sofar bs t text c f u us bt w eu e b l s =
      let o = last_some (is_empty f.rest) n h.context c (sofar ++ u) text (sym (pick_true f.last _ _ l) ∙ e) in
      let r : f.rest ≡ [] = nil_from_length f.rest (eqb-true (length f.rest) 0 o.0) in
      let x : u ≡ t = unsealed dk (to_bytes 12 n) _ _ t u us f.sealed lk bt s eu in
      record {
        frames_are =
            sym w.written
            ∙ (ap₂ (λ xs ys. xs ++ ys) (pick_true f.last (final_bytes n f.sealed) (frame_bytes n f.sealed) l ∙ ap (λ y. final_bytes n y) s) r
            ∙ (append-nil (final_bytes n (seal_frame dk h.id true n t)) ∙ sym (frames_last m dk h.id h.frame_length n t b)));
        text_is = o.2 ∙ ap (λ y. sofar ++ y) x;
        context_is = o.1;
      }

  at_more : (m n : ℕ) (sofar bs t text : List ℕ) (c : List Pair) (f : ReadFrame) (u : List ℕ) (us : List (List ℕ)) → all_bytes t ≡ true → FrameRead n bs f
      → unseal_frame dk h n f ≡ u ∷ us → ltb h.frame_length (length t) ≡ true → f.last ≡ false → f.sealed ≡ seal_frame dk h.id false n (take h.frame_length t)
      → Follows dk h m (suc n) (sofar ++ u) f.rest (drop h.frame_length t) text c → Follows dk h (suc m) n sofar bs t text c
  at_more m n sofar bs t text c f u us bt w eu b l s r =
      let size : ℕ = h.frame_length in
      let x : u ≡ take size t = unsealed dk (to_bytes 12 n) _ _ (take size t) u us f.sealed lk (all_bytes-take size t bt) s eu in
      let both : take size t ++ drop size t ≡ t = take-drop size t in
      record {
        frames_are =
            sym w.written
            ∙ (ap₂ (λ xs ys. xs ++ ys) (pick_false f.last (final_bytes n f.sealed) (frame_bytes n f.sealed) l ∙ ap (λ y. frame_bytes n y) s) r.frames_are
            ∙ sym (frames_more m dk h.id size n t b));
        text_is = r.text_is ∙ (append_assoc sofar u (drop size t) ∙ ap (λ ys. sofar ++ ys) (ap (λ y. y ++ drop size t) x ∙ both));
        context_is = r.context_is;
      }

  rest_in : (k m n : ℕ) (t : List ℕ) (f : ReadFrame) → n < 18446744073709551616 → all_bytes f.rest ≡ true → ltb h.frame_length (length t) ≡ true → f.last ≡ false
      → All (λ p. In p (frame_pieces (suc m) dk h.id h.frame_length n t)) (pick f.last [] (frames_in k dk h (suc n) f.rest))
      → All (λ p. In p (frame_pieces m dk h.id h.frame_length (suc n) (drop h.frame_length t))) (frames_in k dk h (suc n) f.rest)
  rest_in k m n t f hn br b l a =
      all_both (Numbered dk h.id (suc n)) (λ p. In p (frame_pieces (suc m) dk h.id h.frame_length n t)) (λ p. In p (frame_pieces m dk h.id h.frame_length (suc n) (drop h.frame_length t)))
      (frames_in k dk h (suc n) f.rest) (λ p. later_in dk h.id h.frame_length n m t p hn b) (numbered_in k dk h (suc n) f.rest br)
      (subst (λ ps. All (λ p. In p (frame_pieces (suc m) dk h.id h.frame_length n t)) ps) (pick_false f.last [] (frames_in k dk h (suc n) f.rest) l) a)

  shorter : (m : ℕ) (t : List ℕ) → length t < suc m → ltb h.frame_length (length t) ≡ true → length (drop h.frame_length t) < m
  shorter m t hm b = let l : length (drop h.frame_length t) ≡ length t - h.frame_length = length-drop h.frame_length t in let g = ltb-true h.frame_length (length t) b in omega arith

  pub follow : (k m n : ℕ) (sofar bs t text : List ℕ) (c : List Pair) → length t < m → n + m ≤ 18446744073709551616 → all_bytes bs ≡ true → all_bytes t ≡ true
      → open_frames k dk h n sofar bs ≡ opened c text → All (λ p. In p (frame_pieces m dk h.id h.frame_length n t)) (frames_in k dk h n bs)
      → Follows dk h m n sofar bs t text c
  unfolding open_frames frames_in and_then
  follow zero m n sofar bs t text c hm hn bb bt e a = refused_is_opened _ 6 n c text e
  follow (suc k) zero n sofar bs t text c hm hn bb bt e a = absurd (omega arith)
  follow (suc k) (suc m) n sofar bs t text c hm hn bb bt e a =
      let size : ℕ = h.frame_length in
      let id : List ℕ = h.id in
      let x = with_frame_some n (read_frame size n bs) _ c text e in
      let f : ReadFrame = x.frame in
      let y = with_text_some n h sofar f (unseal_frame dk h n f) _ c text x.then in
      let w : FrameRead n bs f = frame_read size n bs f x.more bb x.here in
      let br : all_bytes f.rest ≡ true = (all_bytes_parts (frame_written n f) f.rest (rw w.written bb)).1 in
      let p : All (λ p. In p (frame_pieces (suc m) dk id size n t)) (frame_piece dk id f.last n f.sealed ∷ pick f.last [] (frames_in k dk h (suc n) f.rest)) =
      subst (λ xs. All (λ p. In p (frame_pieces (suc m) dk id size n t)) (and_then xs (λ g. frame_piece dk id g.last n g.sealed ∷ pick g.last [] (frames_in k dk h (suc n) g.rest)))) x.here a in
      ⊎_elim (λ d.
      at_more m n sofar bs t text c f y.text y.more bt w y.here d.0 d.1 d.2
      (follow k m (suc n) (sofar ++ y.text) f.rest (drop size t) text c (shorter m t hm d.0) (omega arith) br (all_bytes-drop size t bt)
      (sym (pick_false f.last _ _ d.1) ∙ y.then) (rest_in k m n t f (omega arith) br d.0 d.1 p.1)))
      (λ d. at_last k m n sofar bs t text c f y.text y.more bt w y.here y.then d.0 d.1 d.2)
      (first_is dk id size f.last n m f.sealed t li hn p.0)
