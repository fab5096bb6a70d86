-- Pieces: which stand in a list, who sealed them, and what their numbers, nonces and additional data tell.
use Rattle.std.proofs.Common.{◌≡◌, ℕ, zero, suc, ◌+◌, ◌<◌, ◌≤◌, Bool, true, false, ◌&&◌, ltb, ◌⊎◌, List, [], ◌∷◌, ◌++◌, length, sym, refl, ap, ◌∙◌, subst, inl, inr, ⊎_elim, arith, length-append}
use Rattle.std.proofs.lemmas.Bool.{and_from, and_parts, cases_Bool, or_cases, or_left, or_right}
use Rattle.std.specs.List.{AllByRecursion as All}
use Rattle.octets.specs.Bits.{pick}
use Rattle.octets.specs.Bytes.{all_bytes, bytes_eq, drop, number, of_bytes, repeat, take, to_bytes}
use Rattle.octets.specs.Cut.{and_then}
use Rattle.octets.proofs.Lists.{halves}
use Rattle.octets.proofs.Numbers.{all_bytes_parts, bytes_eq_refl, bytes_eq_true, length-to_bytes, of_to_bytes, to_bytes_injective}
use Rattle.hkdf.specs.MessageKeys.{sealing_key}
use Rattle.gcm.specs.Gcm.{Sealed}
use Rattle.format.specs.Header.{Header}
use Rattle.format.specs.Message.{frame_pieces, pieces}
use Rattle.format.specs.Opening.{frames_in}
use Rattle.format.specs.Piece.{Piece, final_label, frame_aad, frame_piece, regular_label, seal_frame}
use Rattle.format.specs.Reading.{ReadFrame, read_frame}
use Rattle.format.specs.Request.{Request}
use Rattle.format.specs.Sealed.{Among, TagRight, has_piece, same_piece, was_sealed}
use Rattle.format.proofs.Frames.{FrameRead, frame_read, frame_written}
use Rattle.format.proofs.Requests.{Good}

-- a piece stands in a list
abbrev pub In : Piece → List Piece → Type 0
In p [] = ⊥
In p (q ∷ qs) = (p ≡ q) ⊎ In p qs

piece_eq : (p q : Piece) → same_piece p q ≡ true → p ≡ q
piece_eq p q e =
    let a = and_parts (bytes_eq p.key q.key && (bytes_eq p.nonce q.nonce && bytes_eq p.aad q.aad)) (bytes_eq p.sealed.ciphertext q.sealed.ciphertext && bytes_eq p.sealed.tag q.sealed.tag) e in
    let b = and_parts (bytes_eq p.key q.key) (bytes_eq p.nonce q.nonce && bytes_eq p.aad q.aad) a.0 in
    let d = and_parts (bytes_eq p.nonce q.nonce) (bytes_eq p.aad q.aad) b.1 in
    let f = and_parts (bytes_eq p.sealed.ciphertext q.sealed.ciphertext) (bytes_eq p.sealed.tag q.sealed.tag) a.1 in
    let k = bytes_eq_true p.key q.key b.0 in
    let n = bytes_eq_true p.nonce q.nonce d.0 in
    let g = bytes_eq_true p.aad q.aad d.1 in
    let u = bytes_eq_true p.sealed.ciphertext q.sealed.ciphertext f.0 in
    let v = bytes_eq_true p.sealed.tag q.sealed.tag f.1 in
    λ i. record { key = k i; nonce = n i; aad = g i; sealed = record { ciphertext = u i; tag = v i } }

piece_refl : (p : Piece) → same_piece p p ≡ true
piece_refl p =
    and_from (bytes_eq p.key p.key && (bytes_eq p.nonce p.nonce && bytes_eq p.aad p.aad)) (bytes_eq p.sealed.ciphertext p.sealed.ciphertext && bytes_eq p.sealed.tag p.sealed.tag)
    (and_from (bytes_eq p.key p.key) (bytes_eq p.nonce p.nonce && bytes_eq p.aad p.aad) (bytes_eq_refl p.key)
    (and_from (bytes_eq p.nonce p.nonce) (bytes_eq p.aad p.aad) (bytes_eq_refl p.nonce) (bytes_eq_refl p.aad)))
    (and_from (bytes_eq p.sealed.ciphertext p.sealed.ciphertext) (bytes_eq p.sealed.tag p.sealed.tag) (bytes_eq_refl p.sealed.ciphertext) (bytes_eq_refl p.sealed.tag))

pub has_in : (p : Piece) (qs : List Piece) → has_piece p qs ≡ true → In p qs
unfolding has_piece
has_in p [] e = let z : ◌≡◌ {A = ℕ} 0 1 = cc in omega arith
has_in p (q ∷ qs) e = ⊎_elim (λ h. inl (piece_eq p q h)) (λ h. inr (has_in p qs h)) (or_cases (same_piece p q) (has_piece p qs) e)

pub in_all : (P : Piece → Type 0) (p : Piece) (qs : List Piece) → All P qs → In p qs → P p
in_all P p [] a m = absurd m
in_all P p (q ∷ qs) a (inl e) = subst P (sym e) a.0
in_all P p (q ∷ qs) a (inr m) = in_all P p qs a.1 m

pub all_both : (P Q R : Piece → Type 0) (ps : List Piece) → ((p : Piece) → P p → Q p → R p) → All P ps → All Q ps → All R ps
all_both P Q R [] f a b = tt
all_both P Q R (p ∷ ps) f a b = (f p a.0 b.0, all_both P Q R ps f a.1 b.1)

pub all_map : (P R : Piece → Type 0) (ps : List Piece) → ((p : Piece) → P p → R p) → All P ps → All R ps
all_map P R [] f a = tt
all_map P R (p ∷ ps) f a = (f p a.0, all_map P R ps f a.1)

-- each does, or is the first way out
pub all_or : (P Q R : Piece → Type 0) (W : Type 0) (ps : List Piece) → ((p : Piece) → P p → Q p → W ⊎ R p) → All P ps → All Q ps → W ⊎ All R ps
all_or P Q R W [] f a b = inr tt
all_or P Q R W (p ∷ ps) f a b = ⊎_elim (λ w. inl w) (λ r. ⊎_elim (λ w. inl w) (λ rs. inr (r, rs)) (all_or P Q R W ps f a.1 b.1)) (f p a.0 b.0)

-- one of them was sealed by nobody, or each by somebody
abbrev pub ForgedAmong : List Piece → List Request → Type 0
ForgedAmong ps rs = (p : Piece) × ((has_piece p ps ≡ true) × TagRight p × (was_sealed p rs ≡ false))

pub each_sealed : (ps : List Piece) (rs : List Request) → All TagRight ps → ForgedAmong ps rs ⊎ All (λ p. was_sealed p rs ≡ true) ps
unfolding has_piece
each_sealed [] rs o = inr tt
each_sealed (p ∷ ps) rs o =
    ⊎_elim
    (λ y. ⊎_elim (λ w. inl (w.0, (or_right (same_piece w.0 p) (has_piece w.0 ps) w.1.0, w.1.1, w.1.2))) (λ a. inr (y, a)) (each_sealed ps rs o.1))
    (λ n. inl (p, (or_left (same_piece p p) (has_piece p ps) (piece_refl p), o.0, n)))
    (cases_Bool (was_sealed p rs))

pub record Sealer (p : Piece) (rs : List Request) : Type 0 where
  pub who : Request
  pub among : Among who rs
  pub made : In p (pieces who)

pub sealer : (p : Piece) (rs : List Request) → was_sealed p rs ≡ true → Sealer p rs
unfolding was_sealed Among
sealer p [] e = absurd (let z : ◌≡◌ {A = ℕ} 0 1 = cc in omega arith)
sealer p (r ∷ rs) e =
    ⊎_elim (λ h. record { who = r; among = inl refl; made = has_in p (pieces r) h })
    (λ h. let s = sealer p rs h in record { who = s.who; among = inr s.among; made = s.made })
    (or_cases (has_piece p (pieces r)) (was_sealed p rs) e)

-- pieces of frames, from a number on
pub record Numbered (dk id : List ℕ) (low : ℕ) (p : Piece) : Type 0 where
  pub last : Bool
  pub number : ℕ
  pub sealed : Sealed
  pub is : p ≡ frame_piece dk id last number sealed
  pub from : low ≤ number
  pub under : number < 18446744073709551616

pub numbered_more : (dk id : List ℕ) (low : ℕ) (p : Piece) → Numbered dk id (suc low) p → Numbered dk id low p
numbered_more dk id low p n = record { last = n.last; number = n.number; sealed = n.sealed; is = n.is; from = omega arith; under = n.under }

pub all_more : (dk id : List ℕ) (low : ℕ) (ps : List Piece) → All (Numbered dk id (suc low)) ps → All (Numbered dk id low) ps
all_more dk id low [] a = tt
all_more dk id low (p ∷ ps) a = (numbered_more dk id low p a.0, all_more dk id low ps a.1)

nonce_injective : (a b : ℕ) → a < 18446744073709551616 → b < 18446744073709551616 → to_bytes 12 a ≡ to_bytes 12 b → a ≡ b
nonce_injective a b ha hb e = to_bytes_injective 12 a b (omega arith) (omega arith) e

pub number_is : (dk id : List ℕ) (low : ℕ) (p : Piece) (n : ℕ) → n < 18446744073709551616 → Numbered dk id low p → p.nonce ≡ to_bytes 12 n → low ≤ n
number_is dk id low p n h a e =
    let i : a.number ≡ n = nonce_injective a.number n a.under h (sym (ap (λ q. q.nonce) a.is) ∙ e) in
    omega arith

-- a header's nonce is no frame's
pub zeros : of_bytes (repeat 12 0) ≡ 0
unfolding number repeat
zeros = refl

pub not_zeros : (dk id : List ℕ) (low : ℕ) (p : Piece) → Numbered dk id (suc low) p → p.nonce ≡ repeat 12 0 → ⊥
not_zeros dk id low p a e =
    let i : a.number ≡ 0 = sym (of_to_bytes 12 a.number (omega arith)) ∙ (ap of_bytes (sym (ap (λ q. q.nonce) a.is) ∙ e) ∙ zeros) in
    omega arith

pub framed_first : (dk id : List ℕ) (last : Bool) (n : ℕ) (s : Sealed) → n < 18446744073709551616 → Numbered dk id n (frame_piece dk id last n s)
framed_first dk id last n s h = record { last = last; number = n; sealed = s; is = refl; from = omega arith; under = h }

pub numbered_of : (m : ℕ) (dk id : List ℕ) (size n : ℕ) (t : List ℕ) → n + m ≤ 18446744073709551616 → All (Numbered dk id n) (frame_pieces m dk id size n t)
unfolding frame_pieces pick
numbered_of zero dk id size n t h = tt
numbered_of (suc m) dk id size n t h = go (ltb size (length t)) (numbered_of m dk id size (suc n) (drop size t) (omega arith))
  where
    go : (b : Bool) → All (Numbered dk id (suc n)) (frame_pieces m dk id size (suc n) (drop size t))
        → All (Numbered dk id n) (pick b (frame_piece dk id false n (seal_frame dk id false n (take size t)) ∷ frame_pieces m dk id size (suc n) (drop size t)) (frame_piece dk id true n (seal_frame dk id true n t) ∷ []))
    go true a = (framed_first dk id false n (seal_frame dk id false n (take size t)) (omega arith), all_more dk id n (frame_pieces m dk id size (suc n) (drop size t)) a)
    go false a = (framed_first dk id true n (seal_frame dk id true n t) (omega arith), tt)

pub numbered_in : (k : ℕ) (dk : List ℕ) (h : Header) (n : ℕ) (bs : List ℕ) → all_bytes bs ≡ true → All (Numbered dk h.id n) (frames_in k dk h n bs)
unfolding frames_in and_then pick
numbered_in zero dk h n bs b = tt
numbered_in (suc k) dk h n bs b = go (read_frame h.frame_length n bs) (λ f fs e. frame_read h.frame_length n bs f fs b e) (λ r br. numbered_in k dk h (suc n) r br)
  where
    rest : (f : ReadFrame) (last : Bool) → All (Numbered dk h.id (suc n)) (frames_in k dk h (suc n) f.rest)
        → All (Numbered dk h.id n) (pick last [] (frames_in k dk h (suc n) f.rest))
    rest f true a = tt
    rest f false a = all_more dk h.id n (frames_in k dk h (suc n) f.rest) a

    go : (xs : List ReadFrame) → ((f : ReadFrame) (fs : List ReadFrame) → xs ≡ f ∷ fs → FrameRead n bs f)
        → ((r : List ℕ) → all_bytes r ≡ true → All (Numbered dk h.id (suc n)) (frames_in k dk h (suc n) r))
        → All (Numbered dk h.id n) (and_then xs (λ f. frame_piece dk h.id f.last n f.sealed ∷ pick f.last [] (frames_in k dk h (suc n) f.rest)))
    go [] p a = tt
    go (f ∷ fs) p a =
        let w = p f fs refl in
        (framed_first dk h.id f.last n f.sealed (omega arith), rest f f.last (a f.rest (all_bytes_parts (frame_written n f) f.rest (rw w.written b)).1))

-- what is said beside a frame tells whose it is, and whether it's the last
abbrev pub label_of : Bool → List ℕ
label_of last = pick last final_label regular_label

label_length : (a : Bool) → length (label_of a) ≡ pick a 34 28
unfolding pick final_label regular_label
label_length true = refl
label_length false = refl

last_is : (a b : Bool) → ◌≡◌ {A = ℕ} (pick a 34 28) (pick b 34 28) → a ≡ b
unfolding pick
last_is true true e = refl
last_is true false e = absurd (omega arith)
last_is false true e = absurd (omega arith)
last_is false false e = refl

pub aad_is : (id jd : List ℕ) (a b : Bool) (m n k l : ℕ) → length id ≡ 32 → length jd ≡ 32 → frame_aad id a m k ≡ frame_aad jd b n l → (id ≡ jd) × (a ≡ b)
aad_is id jd a b m n k l hi hj e =
    let p = halves id jd (label_of a ++ (to_bytes 4 m ++ to_bytes 8 k)) (label_of b ++ (to_bytes 4 n ++ to_bytes 8 l)) (hi ∙ sym hj) e in
    let x = length-append (label_of a) (to_bytes 4 m ++ to_bytes 8 k) in
    let y = length-append (label_of b) (to_bytes 4 n ++ to_bytes 8 l) in
    let u = length-append (to_bytes 4 m) (to_bytes 8 k) in
    let v = length-append (to_bytes 4 n) (to_bytes 8 l) in
    let q : length (label_of a) ≡ length (label_of b) =
    omega (arith, ap length p.1, x, y, u, v, length-to_bytes 4 m, length-to_bytes 4 n, length-to_bytes 8 k, length-to_bytes 8 l) in
    (p.0, last_is a b (sym (label_length a) ∙ (q ∙ label_length b)))

-- the pieces of a request's frames
abbrev pub own_key : Request → List ℕ
own_key r = sealing_key r.key r.id

abbrev pub own_frames : Request → List Piece
own_frames r = frame_pieces (suc (length r.text)) (own_key r) r.id r.frame_length 1 r.text

pub own_numbered : (r : Request) → Good r → All (Numbered (own_key r) r.id 1) (own_frames r)
own_numbered r g = let l = g.text_short in numbered_of (suc (length r.text)) (own_key r) r.id r.frame_length 1 r.text (omega arith)
