-- The frames of a message one by one: regular ones with rising numbers and then the final one; and what opening does along them.
use Rattle.std.proofs.Common.{◌≡◌, ℕ, zero, suc, ◌+◌, ◌*◌, ◌<◌, ◌≤◌, Bool, true, false, ◌&&◌, eqb, ltb, ◌⊎◌, List, [], ◌∷◌, ◌++◌, length, sym, refl, ap, ◌∙◌, subst, inl, inr, append_assoc, arith, length-append}
use mathlib.Core.List.{flatten}
use Rattle.std.proofs.lemmas.List.{append-nil}
use Rattle.std.proofs.lemmas.Bool.{eq-eqb, ltb-true, ne_eqb}
use Rattle.octets.specs.Bits.{pick}
use Rattle.octets.specs.Bytes.{bytes_eq, drop, of_bytes, take, to_bytes}
use Rattle.octets.proofs.Bits.{pick_false, pick_true}
use Rattle.octets.proofs.Cuts.{guard_false}
use Rattle.octets.proofs.Lists.{length-take}
use Rattle.octets.proofs.Numbers.{length-to_bytes}
use Rattle.hkdf.specs.MessageKeys.{commitment}
use Rattle.gcm.specs.Gcm.{Sealed}
use Rattle.gcm.proofs.Undo.{length_ciphertext, length_tag}
use Rattle.format.specs.Corollaries.{MessageInFrames, OutOfPlaceNeverOpens, frame_list, frames_of, front_of}
use Rattle.format.specs.Header.{Header, header_bytes, header_of}
use Rattle.format.specs.Message.{frames}
use Rattle.format.specs.Opening.{header_tag_right, open_frames, open_message, opened, unseal_frame, with_frame, with_header, with_text}
use Rattle.format.specs.Piece.{final_bytes, frame_aad, frame_bytes, seal_frame}
use Rattle.format.specs.Reading.{ReadFrame, ReadHeader, read_frame, read_header}
use Rattle.format.specs.Request.{Pair, Request, end_marker}
use Rattle.format.proofs.Fields.{of_four}
use Rattle.format.proofs.Frames.{regular_put}
use Rattle.format.proofs.Headers.{header_put}
use Rattle.format.proofs.KeyLengths.{length-commitment, length-sealing_key}
use Rattle.format.proofs.Lengths.{all_frames, own_tag, tag_long}
use Rattle.format.proofs.Opening.{after, open_read, picked_opened, refused_is_opened, with_frame_some, with_text_some}
use Rattle.format.proofs.Pieces.{own_key}
use Rattle.format.proofs.Requests.{Good, good_is}
use Rattle.format.proofs.Sealing.{next}
use Rattle.format.proofs.Steps.{and_then_put, first_is_first}

-- a regular frame and a final one with a number
pub record Regular (size n : ℕ) (f : List ℕ) : Type 0 where
  pub sealed : Sealed
  pub is : f ≡ frame_bytes n sealed
  pub long : length sealed.ciphertext ≡ size
  pub tag_fits : length sealed.tag ≡ 16
  pub before : n < 4294967295

pub record Final (n : ℕ) (f : List ℕ) : Type 0 where
  pub sealed : Sealed
  pub is : f ≡ final_bytes n sealed
  pub before : n < 4294967296

-- frames from a number on, and regular ones only
abbrev pub Chain : ℕ → ℕ → List (List ℕ) → Type 0
Chain size n [] = ⊥
Chain size n (f ∷ fs) = (Regular size n f × Chain size (suc n) fs) ⊎ ((fs ≡ []) × Final n f)

abbrev pub Run : ℕ → ℕ → List (List ℕ) → Type 0
Run size n [] = Unit {0}
Run size n (f ∷ fs) = Regular size n f × Run size (suc n) fs

chain : (m : ℕ) (dk id : List ℕ) (size n : ℕ) (t : List ℕ) → length dk ≡ 32 → 0 < size → length t < m → n < 4294967296 → length t + n * size ≤ 4294967296 * size → Chain size n (frame_list m dk id size n t)
unfolding frame_list pick
chain zero dk id size n t lk low hm hn ht = absurd (omega arith)
chain (suc m) dk id size n t lk low hm hn ht =
    go (ltb size (length t)) refl (λ g. let f = next size m m n t low hm hm ht g in (f.2, chain m dk id size (suc n) (drop size t) lk low f.0 f.2 f.3))
  where
    front : List ℕ
    front = take size t

    s : Sealed
    s = seal_frame dk id false n front

    go : (b : Bool) → ltb size (length t) ≡ b → (size < length t → (suc n < 4294967296) × Chain size (suc n) (frame_list m dk id size (suc n) (drop size t)))
        → Chain size n (pick b (frame_bytes n s ∷ frame_list m dk id size (suc n) (drop size t)) (final_bytes n (seal_frame dk id true n t) ∷ []))
    go false e i = inr (refl, record { sealed = seal_frame dk id true n t; is = refl; before = hn })
    go true e i =
        let g : size < length t = ltb-true size (length t) e in
        let j = i g in
        let h = j.0 in
        inl (
          record {
            sealed = s;
            is = refl;
            long = length_ciphertext dk (to_bytes 12 n) (frame_aad id false n (length front)) front lk ∙ length-take size t (omega arith);
            tag_fits = length_tag dk (to_bytes 12 n) (frame_aad id false n (length front)) front lk;
            before = omega arith;
          },
          j.1,
        )

pub own_chain : (r : Request) → Good r → Chain r.frame_length 1 (frames_of r)
own_chain r g =
    let f = g.in_frames in
    let l = g.fits.low in
    chain (suc (length r.text)) (own_key r) r.id r.frame_length 1 r.text (length-sealing_key r.key r.id) l (omega arith) (omega arith) (omega arith)

-- from any frame on it's the same, and what stands before is regular
pub chain_at : (size n : ℕ) (before : List (List ℕ)) (f : List ℕ) (fs : List (List ℕ)) → Chain size n (before ++ (f ∷ fs)) → Run size n before × Chain size (n + length before) (f ∷ fs)
chain_at size n [] f fs c = (tt, subst (λ k. Chain size k (f ∷ fs)) (omega arith) c)
chain_at size n (a ∷ rest) f fs (inl (r, c)) =
    let i = chain_at size (suc n) rest f fs c in
    ((r, i.0), subst (λ k. Chain size k (f ∷ fs)) (omega arith) i.1)
chain_at size n (a ∷ rest) f fs (inr (e, z)) = absurd (let l = length-append rest (f ∷ fs) in let m : length (rest ++ (f ∷ fs)) ≡ 0 = ap length e in omega arith)

-- a frame before another is regular
pub chain_first : (size n : ℕ) (f g : List ℕ) (fs : List (List ℕ)) → Chain size n (f ∷ (g ∷ fs)) → Regular size n f
chain_first size n f g fs (inl (r, c)) = r
chain_first size n f g fs (inr (e, z)) = absurd (let m : suc (length fs) ≡ 0 = ap length e in omega arith)

-- bytes joined
pub flatten_append : (xs ys : List (List ℕ)) → flatten (xs ++ ys) ≡ flatten xs ++ flatten ys
unfolding flatten
flatten_append [] ys = refl
flatten_append (x ∷ xs) ys = ap (λ zs. x ++ zs) (flatten_append xs ys) ∙ sym (append_assoc x (flatten xs) (flatten ys))

frames_joined : (m : ℕ) (dk id : List ℕ) (size n : ℕ) (t : List ℕ) → flatten (frame_list m dk id size n t) ≡ frames m dk id size n t
unfolding frame_list frames flatten pick
frames_joined zero dk id size n t = refl
frames_joined (suc m) dk id size n t = go (ltb size (length t)) (frames_joined m dk id size (suc n) (drop size t))
  where
    front : List ℕ
    front = frame_bytes n (seal_frame dk id false n (take size t))

    final : List ℕ
    final = final_bytes n (seal_frame dk id true n t)

    go : (b : Bool) → flatten (frame_list m dk id size (suc n) (drop size t)) ≡ frames m dk id size (suc n) (drop size t)
        → flatten (pick b (front ∷ frame_list m dk id size (suc n) (drop size t)) (final ∷ [])) ≡ pick b (front ++ frames m dk id size (suc n) (drop size t)) final
    go true i = ap (λ ys. front ++ ys) i
    go false i = append-nil final

pub own_joined : (r : Request) → flatten (frames_of r) ≡ all_frames r
own_joined r = frames_joined (suc (length r.text)) (own_key r) r.id r.frame_length 1 r.text

pub message_in_frames : MessageInFrames
unfolding MessageInFrames
message_in_frames r = append_assoc (header_bytes (header_of r)) (own_tag r) (flatten (frames_of r)) ∙ ap (λ ys. header_bytes (header_of r) ++ (own_tag r ++ ys)) (own_joined r)

-- opening that went well went well after the first frames, too
record After (dk : List ℕ) (h : Header) (n : ℕ) (bs text : List ℕ) (c : List Pair) : Type 0 where
  fuel : ℕ
  sofar : List ℕ
  opens : open_frames fuel dk h n sofar bs ≡ opened c text

regular_then : (k : ℕ) (dk : List ℕ) (h : Header) (n : ℕ) (sofar f bs text : List ℕ) (c : List Pair) → Regular h.frame_length n f → open_frames k dk h n sofar (f ++ bs) ≡ opened c text → After dk h (suc n) bs text c
unfolding open_frames pick
regular_then zero dk h n sofar f bs text c r e = refused_is_opened _ 6 n c text e
regular_then (suc k) dk h n sofar f bs text c r e =
    let x = with_frame_some n (read_frame h.frame_length n (f ++ bs)) _ c text e in
    let w : ReadFrame = record { last = false; sealed = r.sealed; rest = bs } in
    let is : read_frame h.frame_length n (f ++ bs) ≡ w ∷ [] =
    ap (λ ys. read_frame h.frame_length n (ys ++ bs)) r.is ∙ regular_put h.frame_length n r.sealed bs r.before r.long r.tag_fits in
    let same : x.frame ≡ w = first_is_first x.frame w x.more [] (sym x.here ∙ is) in
    let y = with_text_some n h sofar x.frame (unseal_frame dk h n x.frame) _ c text x.then in
    record {
      fuel = k;
      sofar = sofar ++ y.text;
      opens =
          sym (ap (λ g. after n h sofar g (λ t. open_frames k dk h (suc n) (sofar ++ t) g.rest) y.text) same) ∙ y.then;
    }

run_then : (dk : List ℕ) (h : Header) (n : ℕ) (fs : List (List ℕ)) (bs text : List ℕ) (c : List Pair) → Run h.frame_length n fs → After dk h n (flatten fs ++ bs) text c → After dk h (n + length fs) bs text c
unfolding flatten
run_then dk h n [] bs text c r a = subst (λ k. After dk h k bs text c) (omega arith) a
run_then dk h n (f ∷ fs) bs text c r a =
    let o : open_frames a.fuel dk h n a.sofar (f ++ (flatten fs ++ bs)) ≡ opened c text = ap (λ ys. open_frames a.fuel dk h n a.sofar ys) (sym (append_assoc f (flatten fs) bs)) ∙ a.opens in
    let i = run_then dk h (suc n) fs bs text c r.1 (regular_then a.fuel dk h n a.sofar f (flatten fs ++ bs) text c r.0 o) in
    subst (λ k. After dk h k bs text c) (omega arith) i

-- a frame with another number can't be read
other_regular : (size m n : ℕ) (f bs : List ℕ) → Regular size m f → (m ≡ n → ⊥) → read_frame size n (f ++ bs) ≡ []
unfolding end_marker
other_regular size m n f bs r d =
    let s : Sealed = r.sealed in
    let b = r.before in
    let e : of_bytes (to_bytes 4 m) ≡ m = of_four m (omega arith) in
    ap (λ ys. read_frame size n ys) (ap (λ ys. ys ++ bs) r.is ∙ append_assoc (to_bytes 4 m) (to_bytes 12 m ++ (s.ciphertext ++ s.tag)) bs)
    ∙ (and_then_put 4 (to_bytes 4 m) ((to_bytes 12 m ++ (s.ciphertext ++ s.tag)) ++ bs) _ (length-to_bytes 4 m)
    ∙ (pick_false (eqb (of_bytes (to_bytes 4 m)) end_marker) _ _ (ne_eqb (of_bytes (to_bytes 4 m)) end_marker (λ z. omega arith))
    ∙ guard_false (eqb (of_bytes (to_bytes 4 m)) n && ltb n end_marker) _ (ap (λ b. b && ltb n end_marker) (ne_eqb (of_bytes (to_bytes 4 m)) n (λ z. d (sym e ∙ z))))))

other_final : (size m n : ℕ) (f bs : List ℕ) → Final m f → (m ≡ n → ⊥) → read_frame size n (f ++ bs) ≡ []
unfolding end_marker
other_final size m n f bs r d =
    let s : Sealed = r.sealed in
    let b = r.before in
    let e : of_bytes (to_bytes 4 m) ≡ m = of_four m b in
    let x : List ℕ = to_bytes 12 m ++ (to_bytes 4 (length s.ciphertext) ++ (s.ciphertext ++ s.tag)) in
    ap (λ ys. read_frame size n ys)
    (ap (λ ys. ys ++ bs) r.is ∙ (append_assoc (to_bytes 4 end_marker) (to_bytes 4 m ++ x) bs ∙ ap (λ ys. to_bytes 4 end_marker ++ ys) (append_assoc (to_bytes 4 m) x bs)))
    ∙ (and_then_put 4 (to_bytes 4 end_marker) (to_bytes 4 m ++ (x ++ bs)) _ (length-to_bytes 4 end_marker)
    ∙ (pick_true (eqb (of_bytes (to_bytes 4 end_marker)) end_marker) _ _ (eq-eqb (of_bytes (to_bytes 4 end_marker)) end_marker (of_four end_marker (omega arith)))
    ∙ (and_then_put 4 (to_bytes 4 m) (x ++ bs) _ (length-to_bytes 4 m) ∙ guard_false (eqb (of_bytes (to_bytes 4 m)) n) _ (ne_eqb (of_bytes (to_bytes 4 m)) n (λ z. d (sym e ∙ z))))))

other_first : (size m n : ℕ) (f : List ℕ) (fs : List (List ℕ)) (bs : List ℕ) → Chain size m (f ∷ fs) → (m ≡ n → ⊥) → read_frame size n (f ++ bs) ≡ []
other_first size m n f fs bs (inl (r, c)) d = other_regular size m n f bs r d
other_first size m n f fs bs (inr (e, z)) d = other_final size m n f bs z d

none_opens : (B : Type 0) (k : ℕ) (dk : List ℕ) (h : Header) (n : ℕ) (sofar bs text : List ℕ) (c : List Pair) → read_frame h.frame_length n bs ≡ [] → open_frames k dk h n sofar bs ≡ opened c text → B
unfolding open_frames with_frame
none_opens B zero dk h n sofar bs text c r e = refused_is_opened B 6 n c text e
none_opens B (suc k) dk h n sofar bs text c r e =
    refused_is_opened B 6 n c text (sym (ap (λ xs. with_frame n xs (λ f. with_text n h sofar f (unseal_frame dk h n f) (λ t. open_frames k dk h (suc n) (sofar ++ t) f.rest))) r) ∙ e)

-- what stands behind a request's header and tag, opened with its key
own_after : (r : Request) (bs text : List ℕ) (c : List Pair) → Good r → open_message r.key (front_of r ++ bs) ≡ opened c text → After (own_key r) (header_of r) 1 bs text c
unfolding with_header
own_after r bs text c g e =
    let x : ReadHeader = record { header = header_of r; tag = own_tag r; rest = bs } in
    let is : read_header (front_of r ++ bs) ≡ x ∷ [] =
    ap read_header (append_assoc (header_bytes (header_of r)) (own_tag r) bs) ∙ header_put (header_of r) (own_tag r) bs g.fits g.rises g.some_keys (length-commitment r.key r.id) (tag_long r) in
    let o : open_read r.key x ≡ opened c text = sym (ap (λ xs. with_header xs (open_read r.key)) is) ∙ e in
    let p = picked_opened (bytes_eq (commitment r.key r.id) (commitment r.key r.id)) _ 4 0 c text o in
    let q = picked_opened (header_tag_right (own_key r) x) _ 5 0 c text p.1 in
    record { fuel = suc (length bs); sofar = []; opens = q.1 }

pub out_of_place : OutOfPlaceNeverOpens
unfolding OutOfPlaceNeverOpens
out_of_place r before between after f g rest text c wf sr is e =
    let good : Good r = good_is r wf sr in
    let size : ℕ = r.frame_length in
    let all : Chain size 1 (before ++ (f ∷ (between ++ (g ∷ after)))) = subst (λ fs. Chain size 1 fs) is (own_chain r good) in
    let here = chain_at size 1 before f (between ++ (g ∷ after)) all in
    let there = chain_at size (1 + length before) (f ∷ between) g after here.1 in
    let a = run_then (own_key r) (header_of r) 1 before (g ++ rest) text c here.0 (own_after r (flatten before ++ (g ++ rest)) text c good e) in
    none_opens ⊥ a.fuel (own_key r) (header_of r) (1 + length before) a.sofar (g ++ rest) text c
    (other_first size (1 + length before + length (f ∷ between)) (1 + length before) g after rest there.1 (λ z. omega arith)) a.opens
