-- What opens was sealed, as it is, or one of three things can be shown.
use Rattle.std.proofs.Common.{◌≡◌, ℕ, suc, true, ◌⊎◌, List, [], ◌∷◌, ◌++◌, length, sym, refl, ap, ◌∙◌, subst, ap₂, inl, inr, ⊎_elim, arith}
use mathlib.Core.List.{List-discrete}
use native.Mathlib.Decide.{ℕ_discrete}
use Rattle.std.specs.List.{AllByRecursion as All}
use Rattle.octets.specs.Bytes.{all_bytes, bytes_eq, repeat}
use Rattle.octets.specs.Cut.{and_then}
use Rattle.octets.proofs.Numbers.{all_bytes_parts, bytes_eq_true}
use Rattle.hkdf.specs.MessageKeys.{commitment, sealing_key}
use Rattle.aes256.specs.Aes.{round_keys}
use Rattle.gcm.specs.Gcm.{ctr_blocks, tag_of}
use Rattle.format.specs.Header.{header_bytes, header_of}
use Rattle.format.specs.Message.{message, pieces}
use Rattle.format.specs.Opening.{frames_in, header_tag_right, open_frames, open_message, opened, pieces_in}
use Rattle.format.specs.Piece.{Piece, header_piece, seal_header}
use Rattle.format.specs.Reading.{ReadHeader, read_header}
use Rattle.format.specs.Request.{Pair, Request}
use Rattle.format.specs.Sealed.{Accounted, Among, Forged, IdReused, KeysCollide, SealedHere, TagRight, UnsealedPiece, WhatOpensWasSealed, WhatOpensWasSealedWhateverTag, all_good, forged, id_reused, keys_collide, sealed_here, was_sealed}
use Rattle.format.proofs.Follow.{Follows, follow, frames_tags_right}
use Rattle.format.proofs.Headers.{HeaderRead, header_injective, header_read}
use Rattle.format.proofs.KeyLengths.{length-sealing_key}
use Rattle.format.proofs.Opening.{HeaderOpened, open_read, picked_opened, with_header_some}
use Rattle.format.proofs.Pieces.{In, Numbered, Sealer, aad_is, all_or, each_sealed, in_all, not_zeros, numbered_in, own_frames, own_key, own_numbered, sealer}
use Rattle.format.proofs.Requests.{Good, good_among, request_discrete}

-- a frame's piece under a request's key and id is this request's, or they were used twice
own_piece : (r : Request) (rs : List Request) (p : Piece) → all_good rs ≡ true → Among r rs → Numbered (own_key r) r.id 1 p → was_sealed p rs ≡ true → IdReused rs ⊎ In p (own_frames r)
own_piece r rs p g a n w = go s.made
  where
    s : Sealer p rs
    s = sealer p rs w

    q : Request
    q = s.who

    gq : Good q
    gq = good_among q rs g s.among

    decided : In p (own_frames q) → (q.id ≡ r.id) → (own_key q ≡ own_key r) → Dec (q ≡ r) → IdReused rs ⊎ In p (own_frames r)
    decided i ei ek (yes e) = inr (subst (λ x. In p (own_frames x)) e i)
    decided i ei ek (no d) = inl (q, (r, (s.among, a, d, ei, ek)))

    frame : In p (own_frames q) → IdReused rs ⊎ In p (own_frames r)
    frame i =
        let m : Numbered (own_key q) q.id 1 p = in_all (Numbered (own_key q) q.id 1) p (own_frames q) (own_numbered q gq) i in
        let both = sym m.is ∙ n.is in
        decided i (aad_is q.id r.id m.last n.last m.number n.number _ _ gq.fits.id_long (good_among r rs g a).fits.id_long (ap (λ x. x.aad) both)).0
        (ap (λ x. x.key) both) (request_discrete q r)

    go : In p (pieces q) → IdReused rs ⊎ In p (own_frames r)
    go (inl e) = absurd (not_zeros (own_key r) r.id 0 p n (ap (λ x. x.nonce) e))
    go (inr i) = frame i

-- a request with another key, whose header stands in the message
pub record SameHeader (rs : List Request) (k bs : List ℕ) : Type 0 where
  pub who : Request
  pub among : Among who rs
  pub other : (who.key ≡ k) → ⊥
  pub same_key : sealing_key who.key who.id ≡ sealing_key k who.id
  pub same_commitment : commitment who.key who.id ≡ commitment k who.id
  pub rest : List ℕ
  pub begins : header_bytes (header_of who) ++ rest ≡ bs

abbrev pub Outcome : List Request → List ℕ → List ℕ → List Pair → List ℕ → Type 0
Outcome rs k bs c text = SealedHere rs k bs c text ⊎ (Forged k bs rs ⊎ (IdReused rs ⊎ SameHeader rs k bs))

-- the header's piece was sealed as this request's header; so the message is this request's, or one of two things can be shown
by_one : (rs : List Request) (k bs text : List ℕ) (c : List Pair) (x : ReadHeader) (r : Request)
    → all_good rs ≡ true → all_bytes bs ≡ true → HeaderRead bs x → Among r rs
    → commitment k x.header.id ≡ x.header.commitment
    → open_frames (suc (length x.rest)) (sealing_key k x.header.id) x.header 1 [] x.rest ≡ opened c text
    → All (λ p. was_sealed p rs ≡ true) (frames_in (suc (length x.rest)) (sealing_key k x.header.id) x.header 1 x.rest)
    → header_piece (sealing_key k x.header.id) x.header (record { ciphertext = []; tag = x.tag }) ≡ header_piece (own_key r) (header_of r) (seal_header (own_key r) (header_of r))
    → Outcome rs k bs c text
by_one rs k bs text c x r good bb seen am ec eo all e = decided (List-discrete ℕ_discrete r.key k)
  where
    g : Good r
    g = good_among r rs good am

    h : x.header ≡ header_of r
    h = header_injective x.header (header_of r) seen.fits g.fits (ap (λ p. p.aad) e)

    ek : sealing_key k x.header.id ≡ own_key r
    ek = ap (λ p. p.key) e

    m : ℕ
    m = suc (length x.rest)

    rest_bytes : all_bytes x.rest ≡ true
    rest_bytes = (all_bytes_parts x.tag x.rest (all_bytes_parts (header_bytes x.header) (x.tag ++ x.rest) (rw seen.written bb)).1).1

    opens_so : open_frames m (own_key r) (header_of r) 1 [] x.rest ≡ opened c text
    opens_so = ap₂ (λ d i. open_frames m d i 1 [] x.rest) (sym ek) (sym h) ∙ eo

    sealed_so : All (λ p. was_sealed p rs ≡ true) (frames_in m (own_key r) (header_of r) 1 x.rest)
    sealed_so = subst (λ ps. All (λ p. was_sealed p rs ≡ true) ps) (ap₂ (λ d i. frames_in m d i 1 x.rest) ek h) all

    follows : All (λ p. In p (own_frames r)) (frames_in m (own_key r) (header_of r) 1 x.rest) → Follows (own_key r) (header_of r) (suc (length r.text)) 1 [] x.rest r.text text c
    follows a =
        let l = g.text_short in
        follow (own_key r) (header_of r) (length-sealing_key r.key r.id) g.fits.id_long g.fits.low
        m (suc (length r.text)) 1 [] x.rest r.text text c (omega arith) (omega arith) rest_bytes g.text_bytes opens_so a

    written : Follows (own_key r) (header_of r) (suc (length r.text)) 1 [] x.rest r.text text c → message r ≡ bs
    written f =
        ap₂ (λ xs ys. xs ++ ys) (ap header_bytes (sym h)) (ap₂ (λ xs ys. xs ++ ys) (sym (ap (λ p. p.sealed.tag) e)) (sym f.frames_are))
        ∙ seen.written

    decided : Dec (r.key ≡ k) → Outcome rs k bs c text
    decided (no n) =
        inr (inr (inr (record {
          who = r;
          among = am;
          other = n;
          same_key = sym ek ∙ ap (λ i. sealing_key k i) (ap (λ i. i.id) h);
          same_commitment = sym (ap (λ i. i.commitment) h) ∙ (sym ec ∙ ap (λ i. commitment k i) (ap (λ i. i.id) h));
          rest = x.tag ++ x.rest;
          begins = ap (λ i. header_bytes i ++ (x.tag ++ x.rest)) (sym h) ∙ seen.written;
        })))
    decided (yes y) =
        ⊎_elim (λ w. inr (inr (inl w))) (λ a. let f = follows a in inl (r, (am, y, sym f.context_is, sym f.text_is, written f)))
        (all_or (Numbered (own_key r) r.id 1) (λ p. was_sealed p rs ≡ true) (λ p. In p (own_frames r)) (IdReused rs) (frames_in m (own_key r) (header_of r) 1 x.rest)
        (λ p n w. own_piece r rs p good am n w) (numbered_in m (own_key r) (header_of r) 1 x.rest rest_bytes) sealed_so)

abbrev header_in : List ℕ → ReadHeader → Piece
header_in k x = header_piece (sealing_key k x.header.id) x.header (record { ciphertext = []; tag = x.tag })

abbrev pieces_at : List ℕ → ReadHeader → List Piece
pieces_at k x = header_in k x ∷ frames_in (suc (length x.rest)) (sealing_key k x.header.id) x.header 1 x.rest

all_sealed : (rs : List Request) (k bs text : List ℕ) (c : List Pair) (x : ReadHeader) → all_good rs ≡ true → all_bytes bs ≡ true → HeaderRead bs x → open_read k x ≡ opened c text
    → All (λ p. was_sealed p rs ≡ true) (pieces_at k x) → Outcome rs k bs c text
all_sealed rs k bs text c x good bb seen e a = go s.made
  where
    s : Sealer (header_in k x) rs
    s = sealer (header_in k x) rs a.0

    r : Request
    r = s.who

    go : In (header_in k x) (pieces r) → Outcome rs k bs c text
    go (inl q) =
        let p = picked_opened (bytes_eq (commitment k x.header.id) x.header.commitment) _ 4 0 c text e in
        let w = picked_opened (header_tag_right (sealing_key k x.header.id) x) _ 5 0 c text p.1 in
        by_one rs k bs text c x r good bb seen s.among (bytes_eq_true (commitment k x.header.id) x.header.commitment p.0) w.1 a.1 q
    go (inr i) =
        absurd (not_zeros (own_key r) r.id 0 (header_in k x)
        (in_all (Numbered (own_key r) r.id 1) (header_in k x) (own_frames r) (own_numbered r (good_among r rs good s.among)) i) refl)

-- the header's piece has its right tag, too
header_piece_tag_right : (k : List ℕ) (x : ReadHeader) → header_tag_right (sealing_key k x.header.id) x ≡ true → TagRight (header_in k x)
unfolding ctr_blocks
header_piece_tag_right k x e = bytes_eq_true (tag_of (round_keys (sealing_key k x.header.id)) (repeat 12 0) (header_bytes x.header) []) x.tag e

pieces_tags_right : (k text : List ℕ) (c : List Pair) (x : ReadHeader) → open_read k x ≡ opened c text → All TagRight (pieces_at k x)
pieces_tags_right k text c x e =
    let p = picked_opened (bytes_eq (commitment k x.header.id) x.header.commitment) _ 4 0 c text e in
    let w = picked_opened (header_tag_right (sealing_key k x.header.id) x) _ 5 0 c text p.1 in
    (header_piece_tag_right k x w.0, frames_tags_right (suc (length x.rest)) (sealing_key k x.header.id) x.header 1 [] x.rest text c w.1)

pub what_opens : (rs : List Request) (k bs text : List ℕ) (c : List Pair) → all_good rs ≡ true → all_bytes bs ≡ true → open_message k bs ≡ opened c text → Outcome rs k bs c text
unfolding and_then
what_opens rs k bs text c good bb e =
    let o : HeaderOpened (read_header bs) (open_read k) (opened c text) = with_header_some (read_header bs) (open_read k) c text e in
    let x : ReadHeader = o.found in
    ⊎_elim (λ w. inr (inl w))
    (λ a. all_sealed rs k bs text c x good bb (header_read bs x o.more bb o.here) o.then (subst (λ xs. All (λ p. was_sealed p rs ≡ true) (and_then xs (pieces_at k))) o.here a))
    (each_sealed (pieces_in k bs) rs (subst (λ xs. All TagRight (and_then xs (pieces_at k))) (sym o.here) (pieces_tags_right k text c x o.then)))

accounted : (rs : List Request) (k bs : List ℕ) (c : List Pair) (text : List ℕ) → Outcome rs k bs c text → Accounted rs k bs c text
accounted rs k bs c text (inl s) = sealed_here s
accounted rs k bs c text (inr (inl f)) = forged f
accounted rs k bs c text (inr (inr (inl w))) = id_reused w
accounted rs k bs c text (inr (inr (inr s))) = keys_collide (s.who, (s.among, s.other, s.same_key, s.same_commitment))

pub what_opens_was_sealed : WhatOpensWasSealed
unfolding WhatOpensWasSealed
what_opens_was_sealed rs k bs text c good bb e = accounted rs k bs c text (what_opens rs k bs text c good bb e)

-- without a word on the tag
without_tag : (rs : List Request) (k bs : List ℕ) (c : List Pair) (text : List ℕ) → Accounted rs k bs c text → SealedHere rs k bs c text ⊎ (UnsealedPiece k bs rs ⊎ (IdReused rs ⊎ KeysCollide k rs))
without_tag rs k bs c text (sealed_here s) = inl s
without_tag rs k bs c text (forged f) = inr (inl (f.0, (f.1.0, f.1.2)))
without_tag rs k bs c text (id_reused w) = inr (inr (inl w))
without_tag rs k bs c text (keys_collide w) = inr (inr (inr w))

pub what_opens_whatever_tag : WhatOpensWasSealedWhateverTag
unfolding WhatOpensWasSealedWhateverTag WhatOpensWasSealed
what_opens_whatever_tag rs k bs text c good bk lk bb e = without_tag rs k bs c text (what_opens_was_sealed rs k bs text c good bb e)
