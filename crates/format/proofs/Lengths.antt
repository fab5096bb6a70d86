-- How long frames and messages are.
use Rattle.std.proofs.Common.{◌≡◌, ℕ, zero, suc, ◌+◌, ◌-◌, ◌*◌, ◌/◌, ◌<◌, ◌≤◌, true, false, ltb, List, [], ◌∷◌, ◌++◌, length, ap, ◌∙◌, ⊎_elim, arith, length-append}
use native.Mathlib.Nat.{div-eq_of_lt, div-eq-sub-div}
use Rattle.std.proofs.lemmas.Bool.{cases_Bool, ltb-false, ltb-true}
use Rattle.octets.specs.Bytes.{drop, repeat, take, to_bytes}
use Rattle.octets.proofs.Lists.{length-drop, length-take}
use Rattle.octets.proofs.Numbers.{length-to_bytes}
use Rattle.gcm.specs.Gcm.{Sealed}
use Rattle.gcm.proofs.Undo.{length_ciphertext, length_tag}
use Rattle.format.specs.Header.{Header, context_bytes, header_bytes, header_of}
use Rattle.format.specs.Message.{frames}
use Rattle.format.specs.Piece.{final_bytes, frame_aad, frame_bytes, seal_frame, seal_header}
use Rattle.format.specs.Request.{Request, data_keys_bytes, end_marker}
use Rattle.format.specs.Statements.{LengthIsKnown}
use Rattle.format.proofs.KeyLengths.{length-commitment, length-sealing_key}
use Rattle.format.proofs.Opening.{frames_last, frames_more}
use Rattle.format.proofs.Pieces.{own_key}
use Rattle.format.proofs.Requests.{Good, good_is}

-- the message of a request
abbrev pub own_tag : Request → List ℕ
own_tag r = (seal_header (own_key r) (header_of r)).tag

abbrev pub all_frames : Request → List ℕ
all_frames r = frames (suc (length r.text)) (own_key r) r.id r.frame_length 1 r.text

pub tag_long : (r : Request) → length (own_tag r) ≡ 16
tag_long r = length_tag (own_key r) (repeat 12 0) (header_bytes (header_of r)) [] (length-sealing_key r.key r.id)

-- how long the frames are
pub length_regular : (n : ℕ) (s : Sealed) → length s.tag ≡ 16 → length (frame_bytes n s) ≡ length s.ciphertext + 32
length_regular n s lt =
    let a = length-append (to_bytes 4 n) (to_bytes 12 n ++ (s.ciphertext ++ s.tag)) in
    let b = length-append (to_bytes 12 n) (s.ciphertext ++ s.tag) in
    let d = length-append s.ciphertext s.tag in
    let e = length-to_bytes 4 n in
    let f = length-to_bytes 12 n in
    omega arith

length_final : (n : ℕ) (s : Sealed) → length s.tag ≡ 16 → length (final_bytes n s) ≡ length s.ciphertext + 40
length_final n s lt =
    let a = length-append (to_bytes 4 end_marker) (to_bytes 4 n ++ (to_bytes 12 n ++ (to_bytes 4 (length s.ciphertext) ++ (s.ciphertext ++ s.tag)))) in
    let b = length-append (to_bytes 4 n) (to_bytes 12 n ++ (to_bytes 4 (length s.ciphertext) ++ (s.ciphertext ++ s.tag))) in
    let d = length-append (to_bytes 12 n) (to_bytes 4 (length s.ciphertext) ++ (s.ciphertext ++ s.tag)) in
    let e = length-append (to_bytes 4 (length s.ciphertext)) (s.ciphertext ++ s.tag) in
    let f = length-append s.ciphertext s.tag in
    let g = length-to_bytes 4 end_marker in
    let i = length-to_bytes 4 n in
    let j = length-to_bytes 12 n in
    let k = length-to_bytes 4 (length s.ciphertext) in
    omega arith

-- a frame more where more than a frame's size is left
one_more : (size l : ℕ) → 0 < size → size < l → (l - 1) / size ≡ (l - size - 1) / size + 1
one_more size l low g =
    let e : l - 1 - size ≡ l - size - 1 = omega arith in
    let h : size ≤ l - 1 = omega arith in
    div-eq-sub-div low h ∙ ap (λ k. k / size + 1) e

no_more : (size l : ℕ) → 0 < size → l ≤ size → (l - 1) / size ≡ 0
no_more size l low g = let h : l - 1 < size = omega arith in div-eq_of_lt h

pub length_frames : (m : ℕ) (dk id : List ℕ) (size n : ℕ) (t : List ℕ) → length dk ≡ 32 → 0 < size → length t < m
    → length (frames m dk id size n t) ≡ length t + (32 * ((length t - 1) / size) + 40)
length_frames zero dk id size n t lk low hm = absurd (omega arith)
length_frames (suc m) dk id size n t lk low hm =
    ⊎_elim
    (λ b.
    let g = ltb-true size (length t) b in
    let l = length-drop size t in
    more b (length_frames m dk id size (suc n) (drop size t) lk low (omega arith)))
    last (cases_Bool (ltb size (length t)))
  where
    front : List ℕ
    front = take size t

    rest : List ℕ
    rest = frames m dk id size (suc n) (drop size t)

    s : Sealed
    s = seal_frame dk id false n front

    z : Sealed
    z = seal_frame dk id true n t

    more : ltb size (length t) ≡ true → length rest ≡ length (drop size t) + (32 * ((length (drop size t) - 1) / size) + 40)
        → length (frames (suc m) dk id size n t) ≡ length t + (32 * ((length t - 1) / size) + 40)
    more b i =
        let g = ltb-true size (length t) b in
        let lb = length-drop size t in
        let lf : length front ≡ size = length-take size t (omega arith) in
        let lc = length_ciphertext dk (to_bytes 12 n) (frame_aad id false n (length front)) front lk in
        let lr = length_regular n s (length_tag dk (to_bytes 12 n) (frame_aad id false n (length front)) front lk) in
        let la = length-append (frame_bytes n s) rest in
        let q : (length t - 1) / size ≡ (length t - size - 1) / size + 1 = one_more size (length t) low g in
        let w : (length (drop size t) - 1) / size ≡ (length t - size - 1) / size = ap (λ j. (j - 1) / size) lb in
        ap length (frames_more m dk id size n t b) ∙ omega arith

    last : ltb size (length t) ≡ false → length (frames (suc m) dk id size n t) ≡ length t + (32 * ((length t - 1) / size) + 40)
    last b =
        let q : (length t - 1) / size ≡ 0 = no_more size (length t) low (ltb-false size (length t) b) in
        let lc = length_ciphertext dk (to_bytes 12 n) (frame_aad id true n (length t)) t lk in
        let lr = length_final n z (length_tag dk (to_bytes 12 n) (frame_aad id true n (length t)) t lk) in
        ap length (frames_last m dk id size n t b) ∙ omega arith

length_header : (h : Header) → length h.id ≡ 32 → length h.commitment ≡ 32
    → length (header_bytes h) ≡ 74 + (length (context_bytes h.context) + length (data_keys_bytes h.encrypted_data_keys))
length_header h li lc =
    let d : List ℕ = to_bytes 4 h.frame_length ++ h.commitment in
    let e : List ℕ = data_keys_bytes h.encrypted_data_keys ++ ((2 ∷ []) ++ d) in
    let f : List ℕ = to_bytes 2 (length h.encrypted_data_keys) ++ e in
    let a1 = length-append h.id (context_bytes h.context ++ f) in
    let a2 = length-append (context_bytes h.context) f in
    let a3 = length-append (to_bytes 2 (length h.encrypted_data_keys)) e in
    let a4 = length-append (data_keys_bytes h.encrypted_data_keys) ((2 ∷ []) ++ d) in
    let a5 = length-append (to_bytes 4 h.frame_length) h.commitment in
    let b1 = length-to_bytes 2 (length h.encrypted_data_keys) in
    let b2 = length-to_bytes 4 h.frame_length in
    omega arith

pub length_is_known : LengthIsKnown
unfolding LengthIsKnown
length_is_known r re tu =
    let g : Good r = good_is r re tu in
    let h : Header = header_of r in
    let l = length_frames (suc (length r.text)) (own_key r) r.id r.frame_length 1 r.text (length-sealing_key r.key r.id) g.fits.low (omega arith) in
    let t = tag_long r in
    let a = length-append (header_bytes h) (own_tag r ++ all_frames r) in
    let b = length-append (own_tag r) (all_frames r) in
    let d = length_header h g.fits.id_long (length-commitment r.key r.id) in
    omega arith
