-- Messages whose frames were cut off, exchanged or taken from another message don't open.
use Rattle.std.proofs.Common.{◌≡◌, ℕ, ◌+◌, List, [], ◌∷◌, ◌++◌, length, sym, refl, ap, ◌∙◌, subst, inl, inr, ⊎_elim, append_assoc, arith, length-append}
use mathlib.Core.List.{flatten}
use Rattle.octets.specs.Bytes.{to_bytes}
use Rattle.octets.proofs.Lists.{halves}
use Rattle.octets.proofs.Numbers.{length-to_bytes, to_bytes_injective}
use Rattle.gcm.specs.Gcm.{Sealed}
use Rattle.format.specs.Corollaries.{CutShortAndEnded, CutShortNeverOpens, ExchangedAndRenumbered, ExchangedNeverOpens, FramesOfAnother, MessageInFrames, NothingElseBehindAHeader, OutOfPlaceNeverOpens, frames_of, front_of, numbered_frame, with_frames}
use Rattle.format.specs.Header.{header_bytes, header_of}
use Rattle.format.specs.Message.{message}
use Rattle.format.specs.Opening.{open_message}
use Rattle.format.specs.Piece.{final_bytes, frame_bytes}
use Rattle.format.specs.Request.{Request, end_marker}
use Rattle.format.proofs.Behind.{nothing_else_behind}
use Rattle.format.proofs.FrameList.{Chain, Regular, chain_at, chain_first, flatten_append, message_in_frames, out_of_place, own_chain}
use Rattle.format.proofs.Lengths.{length_regular, own_tag}
use Rattle.format.proofs.Opening.{after}
use Rattle.format.proofs.Requests.{Good, good_among}

flatten_one : (fs : List (List ℕ)) (g : List ℕ) → flatten (fs ++ (g ∷ [])) ≡ flatten fs ++ (g ++ [])
unfolding flatten
flatten_one fs g = flatten_append fs (g ∷ [])

flatten_from : (fs : List (List ℕ)) (g : List ℕ) (gs : List (List ℕ)) → flatten (fs ++ (g ∷ gs)) ≡ flatten fs ++ (g ++ flatten gs)
unfolding flatten
flatten_from fs g gs = flatten_append fs (g ∷ gs)

pub cut_short : CutShortNeverOpens
unfolding CutShortNeverOpens OutOfPlaceNeverOpens
cut_short r before lost f final text c wf sr is e =
    out_of_place r before lost [] f final [] text c wf sr is (ap (λ ys. open_message r.key (front_of r ++ ys)) (sym (flatten_one before final)) ∙ e)

pub exchanged : ExchangedNeverOpens
unfolding ExchangedNeverOpens OutOfPlaceNeverOpens
exchanged r before between after f g text c wf sr is e =
    out_of_place r before between after f g (flatten (between ++ (f ∷ after))) text c wf sr is
    (ap (λ ys. open_message r.key (front_of r ++ ys)) (sym (flatten_from before g (between ++ (f ∷ after)))) ∙ e)

-- frames behind a header and its tag
behind_front : (r : Request) (fs : List (List ℕ)) → header_bytes (header_of r) ++ (own_tag r ++ flatten fs) ≡ with_frames r fs
behind_front r fs = sym (append_assoc (header_bytes (header_of r)) (own_tag r) (flatten fs))

same_rest : (a x y : List ℕ) → a ++ x ≡ a ++ y → x ≡ y
same_rest a x y e = (halves a a x y refl e).1

-- if it's the message after all, the frames are the message's
same_frames : (r : Request) (fs : List (List ℕ)) (bs : List ℕ) → with_frames r fs ≡ bs → message r ≡ bs → flatten (frames_of r) ≡ flatten fs
unfolding MessageInFrames
same_frames r fs bs is e = same_rest (front_of r) (flatten (frames_of r)) (flatten fs) (message_in_frames r ∙ (e ∙ sym is))

from_here : (r : Request) (before gs hs : List (List ℕ)) (f g bs : List ℕ) → frames_of r ≡ before ++ (f ∷ gs) → with_frames r (before ++ (g ∷ hs)) ≡ bs → message r ≡ bs → f ++ flatten gs ≡ g ++ flatten hs
from_here r before gs hs f g bs is eb e =
    same_rest (flatten before) (f ++ flatten gs) (g ++ flatten hs)
    (sym (flatten_from before f gs) ∙ (ap flatten (sym is) ∙ (same_frames r (before ++ (g ∷ hs)) bs eb e ∙ flatten_from before g hs)))

-- a regular frame begins otherwise than a final one
regular_final : (size m n : ℕ) (f xs ys : List ℕ) (s : Sealed) → Regular size m f → f ++ xs ≡ final_bytes n s ++ ys → ⊥
unfolding end_marker
regular_final size m n f xs ys s r e =
    let u : Sealed = r.sealed in
    let b = r.before in
    let x : List ℕ = to_bytes 12 m ++ (u.ciphertext ++ u.tag) in
    let y : List ℕ = to_bytes 4 n ++ (to_bytes 12 n ++ (to_bytes 4 (length s.ciphertext) ++ (s.ciphertext ++ s.tag))) in
    let h = halves (to_bytes 4 m) (to_bytes 4 end_marker) (x ++ xs) (y ++ ys) (length-to_bytes 4 m ∙ sym (length-to_bytes 4 end_marker))
    (sym (append_assoc (to_bytes 4 m) x xs) ∙ (ap (λ zs. zs ++ xs) (sym r.is) ∙ (e ∙ append_assoc (to_bytes 4 end_marker) y ys))) in
    let z : m ≡ end_marker = to_bytes_injective 4 m end_marker (omega arith) (omega arith) h.0 in
    omega arith

pub cut_short_and_ended : CutShortAndEnded
unfolding CutShortAndEnded NothingElseBehindAHeader
cut_short_and_ended rs r before lost f g n s bs text c good a is eb bb e =
    let gr : Good r = good_among r rs good a in
    let here = chain_at r.frame_length 1 before f (g ∷ lost) (subst (λ fs. Chain r.frame_length 1 fs) is (own_chain r gr)) in
    ⊎_elim (λ w. absurd (regular_final r.frame_length (1 + length before) n f (flatten (g ∷ lost)) (flatten []) s (chain_first r.frame_length (1 + length before) f g lost here.1)
    (from_here r before (g ∷ lost) [] f (final_bytes n s) bs is eb w)))
    (λ w. w)
    (nothing_else_behind rs r (own_tag r ++ flatten (before ++ (final_bytes n s ∷ []))) bs text c good a (behind_front r (before ++ (final_bytes n s ∷ [])) ∙ eb) bb e)

-- how long what a regular frame holds is
length_content : (size m n : ℕ) (x : List ℕ) → Regular size m (numbered_frame n x) → length x ≡ size + 16
length_content size m n x r =
    let u : Sealed = r.sealed in
    let l : length (numbered_frame n x) ≡ length (frame_bytes m u) = ap length r.is in
    let a = length_regular m u r.tag_fits in
    let b = length-append (to_bytes 4 n) (to_bytes 12 n ++ x) in
    let d = length-append (to_bytes 12 n) x in
    let i = length-to_bytes 4 n in
    let j = length-to_bytes 12 n in
    let k = r.long in
    omega arith

pub exchanged_and_renumbered : ExchangedAndRenumbered
unfolding ExchangedAndRenumbered NothingElseBehindAHeader
exchanged_and_renumbered rs r before between after m n x y z bs text c good a is eb bb e =
    let size : ℕ = r.frame_length in
    let f : List ℕ = numbered_frame m x in
    let g : List ℕ = numbered_frame n y in
    let fs : List (List ℕ) = between ++ (g ∷ (z ∷ after)) in
    let gs : List (List ℕ) = between ++ (numbered_frame n x ∷ (z ∷ after)) in
    let here = chain_at size 1 before f fs (subst (λ ls. Chain size 1 ls) is (own_chain r (good_among r rs good a))) in
    let there = chain_at size (1 + length before) (f ∷ between) g (z ∷ after) here.1 in
    let lx = length_content size (1 + length before) m x there.0.0 in
    let ly = length_content size (1 + length before + length (f ∷ between)) n y (chain_first size (1 + length before + length (f ∷ between)) g z after there.1) in
    ⊎_elim (λ w. inl (contents m x y (flatten fs) (flatten gs) (lx ∙ sym ly) (from_here r before fs gs f (numbered_frame m y) bs is eb w)))
    (λ w. inr w)
    (nothing_else_behind rs r (own_tag r ++ flatten (before ++ (numbered_frame m y ∷ gs))) bs text c good a (behind_front r (before ++ (numbered_frame m y ∷ gs)) ∙ eb) bb e)
  where
    contents : (m : ℕ) (x y u v : List ℕ) → length x ≡ length y → numbered_frame m x ++ u ≡ numbered_frame m y ++ v → x ≡ y
    contents m x y u v l e =
        let p = same_rest (to_bytes 4 m) ((to_bytes 12 m ++ x) ++ u) ((to_bytes 12 m ++ y) ++ v)
        (sym (append_assoc (to_bytes 4 m) (to_bytes 12 m ++ x) u) ∙ (e ∙ append_assoc (to_bytes 4 m) (to_bytes 12 m ++ y) v)) in
        let q = same_rest (to_bytes 12 m) (x ++ u) (y ++ v) (sym (append_assoc (to_bytes 12 m) x u) ∙ (p ∙ append_assoc (to_bytes 12 m) y v)) in
        (halves x y u v l q).0

pub frames_of_another : FramesOfAnother
unfolding FramesOfAnother NothingElseBehindAHeader
frames_of_another rs r q bs text c good a eb bb e =
    ⊎_elim (λ w. inl (sym (same_frames r (frames_of q) bs eb w))) (λ w. inr w)
    (nothing_else_behind rs r (own_tag r ++ flatten (frames_of q)) bs text c good a (behind_front r (frames_of q) ∙ eb) bb e)
