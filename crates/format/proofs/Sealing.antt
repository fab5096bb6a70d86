-- What was sealed opens to what it was, its header is seen, and with another commitment the refusal is 4.
use Rattle.std.proofs.Common.{◌≡◌, ℕ, zero, suc, ◌+◌, ◌*◌, ◌<◌, ◌≤◌, Bool, true, false, ltb, List, [], ◌∷◌, ◌++◌, length, sym, ap, ◌∙◌, ⊎_elim, append_assoc, suc-mul, lt_of_mul-lt-mul_right, arith}
use Rattle.std.proofs.lemmas.List.{append-nil}
use Rattle.std.proofs.lemmas.Bool.{cases_Bool, ltb-false, ltb-true}
use Rattle.octets.specs.Bits.{pick}
use Rattle.octets.specs.Bytes.{all_bytes, bytes_eq, drop, take, to_bytes}
use Rattle.octets.proofs.Bits.{pick_false, pick_true}
use Rattle.octets.proofs.Lists.{length-drop, length-take, take-drop}
use Rattle.octets.proofs.Numbers.{all_bytes-drop, all_bytes-take, bytes_eq_refl}
use Rattle.hkdf.specs.MessageKeys.{commitment}
use Rattle.gcm.specs.Gcm.{Sealed, unseal}
use Rattle.gcm.proofs.Undo.{length_ciphertext, length_tag, unseal-seal}
use Rattle.format.specs.Header.{Header, header_of}
use Rattle.format.specs.Message.{frames, message}
use Rattle.format.specs.Opening.{header_tag_right, open_frames, opened, with_header}
use Rattle.format.specs.Piece.{final_bytes, frame_aad, frame_bytes, seal_frame}
use Rattle.format.specs.Reading.{ReadHeader, read_header}
use Rattle.format.specs.Request.{Request}
use Rattle.format.specs.Statements.{HeaderIsSeen, OtherKey, SealedOpens, header_seen}
use Rattle.format.proofs.Frames.{final_put, regular_put}
use Rattle.format.proofs.Headers.{header_put}
use Rattle.format.proofs.KeyLengths.{length-commitment, length-sealing_key}
use Rattle.format.proofs.Lengths.{all_frames, length_frames, own_tag, tag_long}
use Rattle.format.proofs.Opening.{frames_last, frames_more, open_read, open_step}
use Rattle.format.proofs.Pieces.{own_key}
use Rattle.format.proofs.Requests.{Good, good_is}

unseal_own : (dk id : List ℕ) (last : Bool) (n : ℕ) (t : List ℕ) → length dk ≡ 32 → all_bytes t ≡ true
    → unseal dk (to_bytes 12 n) (frame_aad id last n (length (seal_frame dk id last n t).ciphertext)) (seal_frame dk id last n t) ≡ t ∷ []
unseal_own dk id last n t lk bt =
    ap (λ j. unseal dk (to_bytes 12 n) (frame_aad id last n j) (seal_frame dk id last n t)) (length_ciphertext dk (to_bytes 12 n) (frame_aad id last n (length t)) t lk)
    ∙ unseal-seal dk (to_bytes 12 n) (frame_aad id last n (length t)) t lk bt

pub next : (size m k n : ℕ) (t : List ℕ) → 0 < size → length t < suc m → length t < suc k → length t + n * size ≤ 4294967296 * size → size < length t
    → (length (drop size t) < m) × (length (drop size t) < k) × (suc n < 4294967296) × (length (drop size t) + suc n * size ≤ 4294967296 * size)
next size m k n t low hm hk ht g =
    let l = length-drop size t in
    let e : suc n * size ≡ n * size + size = suc-mul n size in
    let f : suc n * size < 4294967296 * size = omega arith in
    (omega arith, omega arith, lt_of_mul-lt-mul_right size f, omega arith)

module _ (dk : List ℕ) (h : Header) (lk : length dk ≡ 32) (low : 0 < h.frame_length) (high : h.frame_length < 4294967296) where
  pub frames_open : (k m n : ℕ) (sofar t : List ℕ) → length t < m → length t < k → n < 4294967296 → length t + n * h.frame_length ≤ 4294967296 * h.frame_length → all_bytes t ≡ true
      → open_frames k dk h n sofar (frames m dk h.id h.frame_length n t) ≡ opened h.context (sofar ++ t)
  unfolding pick
  frames_open zero m n sofar t hm hk hn ht bt = absurd (omega arith)
  frames_open (suc k) zero n sofar t hm hk hn ht bt = absurd (omega arith)
  frames_open (suc k) (suc m) n sofar t hm hk hn ht bt =
      ⊎_elim
      (λ b.
      let f = next h.frame_length m k n t low hm hk ht (ltb-true h.frame_length (length t) b) in
      more b (frames_open k m (suc n) (sofar ++ take h.frame_length t) (drop h.frame_length t) f.0 f.1 f.2 f.3 (all_bytes-drop h.frame_length t bt)) f.2)
      last (cases_Bool (ltb h.frame_length (length t)))
    where
      size : ℕ
      size = h.frame_length

      front : List ℕ
      front = take size t

      rest : List ℕ
      rest = frames m dk h.id size (suc n) (drop size t)

      s : Sealed
      s = seal_frame dk h.id false n front

      z : Sealed
      z = seal_frame dk h.id true n t

      more : ltb size (length t) ≡ true → open_frames k dk h (suc n) (sofar ++ front) rest ≡ opened h.context ((sofar ++ front) ++ drop size t) → suc n < 4294967296
          → open_frames (suc k) dk h n sofar (frames (suc m) dk h.id size n t) ≡ opened h.context (sofar ++ t)
      more b i hn2 =
          let g = ltb-true size (length t) b in
          let lf : length front ≡ size = length-take size t (omega arith) in
          let l = length_ciphertext dk (to_bytes 12 n) (frame_aad h.id false n (length front)) front lk in
          ap (λ xs. open_frames (suc k) dk h n sofar xs) (frames_more m dk h.id size n t b)
          ∙ (open_step k dk h n sofar (frame_bytes n s ++ rest) (record { last = false; sealed = s; rest = rest }) front []
          (regular_put size n s rest (omega arith) (l ∙ lf) (length_tag dk (to_bytes 12 n) (frame_aad h.id false n (length front)) front lk)) (unseal_own dk h.id false n front lk (all_bytes-take size t bt))
          ∙ (i ∙ ap (λ xs. opened h.context xs)
          (append_assoc sofar front (drop size t) ∙ ap (λ xs. sofar ++ xs) (take-drop size t))))

      last : ltb size (length t) ≡ false → open_frames (suc k) dk h n sofar (frames (suc m) dk h.id size n t) ≡ opened h.context (sofar ++ t)
      last b =
          let g = ltb-false size (length t) b in
          let l = length_ciphertext dk (to_bytes 12 n) (frame_aad h.id true n (length t)) t lk in
          ap (λ xs. open_frames (suc k) dk h n sofar xs) (frames_last m dk h.id size n t b ∙ sym (append-nil (final_bytes n z)))
          ∙ open_step k dk h n sofar (final_bytes n z ++ []) (record { last = true; sealed = z; rest = [] }) t []
          (final_put size n z [] hn high (omega arith) (length_tag dk (to_bytes 12 n) (frame_aad h.id true n (length t)) t lk)) (unseal_own dk h.id true n t lk bt)

abbrev own_header : Request → ReadHeader
own_header r = record { header = header_of r; tag = own_tag r; rest = all_frames r }

pub reads_own : (r : Request) → Good r → read_header (message r) ≡ own_header r ∷ []
reads_own r g = header_put (header_of r) (own_tag r) (all_frames r) g.fits g.rises g.some_keys (length-commitment r.key r.id) (tag_long r)

pub header_is_seen : HeaderIsSeen
unfolding HeaderIsSeen header_seen
header_is_seen r re tu = ap header_seen (reads_own r (good_is r re tu))

pub other_key : OtherKey
unfolding OtherKey with_header
other_key r k re tu n =
    ap (λ xs. with_header xs (open_read k)) (reads_own r (good_is r re tu)) ∙ pick_false (bytes_eq (commitment k r.id) (commitment r.key r.id)) _ _ n

pub sealed_opens : SealedOpens
unfolding SealedOpens with_header
sealed_opens r re tu =
    let g : Good r = good_is r re tu in
    let dk : List ℕ = own_key r in
    let l = length_frames (suc (length r.text)) dk r.id r.frame_length 1 r.text (length-sealing_key r.key r.id) g.fits.low (omega arith) in
    let f = g.in_frames in
    ap (λ xs. with_header xs (open_read r.key)) (reads_own r g)
    ∙ (pick_true (bytes_eq (commitment r.key r.id) (commitment r.key r.id)) _ _ (bytes_eq_refl (commitment r.key r.id))
    ∙ (pick_true (header_tag_right dk (own_header r)) _ _ (bytes_eq_refl (own_tag r))
    ∙ frames_open dk (header_of r) (length-sealing_key r.key r.id) g.fits.low g.fits.high (suc (length (all_frames r))) (suc (length r.text)) 1 [] r.text
    (omega arith) (omega arith) (omega arith) (omega arith) g.text_bytes))
