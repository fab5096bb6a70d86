-- Messages in parts: the start and the frames, how long they are, and that sums of lengths don't wrap.
use Rattle.std.proofs.Common.{◌≡◌, ℕ, suc, ◌+◌, ◌-◌, ◌*◌, ◌/◌, ◌<◌, ◌≤◌, true, List, [], ◌++◌, length, take, drop, sym, refl, ap, ◌∙◌, subst, ap₂, append_assoc, div-lt_iff_lt-mul, arith, length-append, length-drop, length-take-le, mul-le-mul_right}
use borrow.Rule.Slice.PartMut.{put_mid}
use Rattle.std.proofs.lemmas.Bool.{and_parts, and_from, leb-true, ltb-true, le-leb, lt-ltb, cond-true}
use Rattle.octets.specs.Splice.{Written}
use Rattle.octets.proofs.Splice.{written_then, written_all, spliced_mid, length-spliced, take-spliced_through}
use Rattle.hkdf.specs.MessageKeys.{sealing_key, commitment}
use Rattle.gcm.specs.Key.{key_of}
use Rattle.format.specs.Request as Rq
use Rattle.format.specs.Request.{end_marker}
use Rattle.format.specs.Header.{header_bytes, header_of}
use Rattle.format.specs.Message.{frames}
use Rattle.format.proofs.KeyLengths.{length-sealing_key, length-commitment}
use Rattle.format.proofs.Lengths.{tag_long, length_frames}
use Rattle.header.specs.Models.{request_with, pairs, data_keys}
use Rattle.header.specs.Checked.{text_fits, header_refusal, HandsOnHeader}
use Rattle.header.specs.Written.{asked_bytes}
use Rattle.header.specs.declared.request.HeaderRequest.{HeaderRequest}
use Rattle.header.specs.declared.passed.CheckedHeader.{CheckedHeader}
use Rattle.header.proofs.Lengths.{length_header, data_keys_told, context_short}
use Rattle.header.proofs.Refusals.{header_passed}
use Rattle.frames.specs.Cipher.{header_tag}
use Rattle.sealing.specs.Whole.{sealed_message, start, frames_length}
use Rattle.sealing.specs.Keys.{KeysFor}
use Rattle.sealing.specs.declared.keys.Keys.{Keys}

-- a message is its start and its frames, and the start is a header and its tag
pub message_is : (r : Rq.Request) → start r ++ frames (suc (length r.text)) (sealing_key r.key r.id) r.id r.frame_length 1 r.text ≡ sealed_message r
unfolding sealed_message start
message_is r = append_assoc (header_bytes (header_of r)) _ _

pub start_is : (key : List ℕ) (h : HeaderRequest) (t cipher c : List ℕ) → cipher ≡ sealing_key key h.id.now → c ≡ commitment key h.id.now → asked_bytes h c ++ header_tag cipher (asked_bytes h c) ≡ start (request_with key h t)
unfolding start header_tag
start_is key h t cipher c p q = ap₂ (λ a b. asked_bytes h b ++ header_tag a (asked_bytes h b)) p q

pub start_of_keys : (key : List ℕ) (h : HeaderRequest) (t : List ℕ) (k : Keys) → KeysFor key h.id.now k → asked_bytes h k.commitment ++ header_tag (key_of k.cipher.key) (asked_bytes h k.commitment) ≡ start (request_with key h t)
start_of_keys key h t k p = start_is key h t _ _ p.sealing_key p.commitment

pub start_any_text : (key : List ℕ) (h : HeaderRequest) (t u : List ℕ) → start (request_with key h t) ≡ start (request_with key h u)
unfolding start
start_any_text key h t u = refl

pub length_start : (key : List ℕ) (h : HeaderRequest) (t : List ℕ) → length (start (request_with key h t)) ≡ length (asked_bytes h (commitment key h.id.now)) + 16
unfolding start
length_start key h t =
    let r = request_with key h t in
    let tag = tag_long r in
    length-append (header_bytes (header_of r)) _ ∙ ap (λ n. length (header_bytes (header_of r)) + n) tag

pub length_message : (r : Rq.Request) → 0 < r.frame_length → length (sealed_message r) ≡ length (start r) + frames_length (length r.text) r.frame_length
length_message r p =
    let k = length-sealing_key r.key r.id in
    sym (ap length (message_is r)) ∙ length-append (start r) _ ∙ ap (λ n. length (start r) + n) (length_frames (suc (length r.text)) (sealing_key r.key r.id) r.id r.frame_length 1 r.text k p (omega arith))

-- a header written, and its tag behind it
pub tagged : (old mid out front tag cipher : List ℕ) (end at k : ℕ) → Written old 0 front end mid → k ≡ end → tag ≡ header_tag cipher (take k mid) → Written mid end tag at out → Written old 0 (front ++ header_tag cipher front) at out
tagged old mid out front tag cipher end at k w ek e v =
    let there : take k mid ≡ front =
    ap (λ n. take n mid) (ek ∙ w.next) ∙ ap (λ l. take (0 + length front) l) w.holds ∙ take-spliced_through old 0 front (omega arith) in
    let P : List ℕ → Type 0 = λ l. Written old 0 (front ++ l) at out in
    subst P (e ∙ ap (λ l. header_tag cipher l) there) (written_then old mid out front tag 0 end at w v)

pub start_written : (key : List ℕ) (h : HeaderRequest) (t cipher c old out : List ℕ) (n : ℕ) → cipher ≡ sealing_key key h.id.now → c ≡ commitment key h.id.now
    → Written old 0 (asked_bytes h c ++ header_tag cipher (asked_bytes h c)) n out → Written old 0 (start (request_with key h t)) n out
start_written key h t cipher c old out n p q w = let P : List ℕ → Type 0 = λ l. Written old 0 l n out in subst P (start_is key h t cipher c p q) w

pub start_of_keys_written : (key : List ℕ) (h : HeaderRequest) (t : List ℕ) (k : Keys) (old out : List ℕ) (n : ℕ) → KeysFor key h.id.now k
    → Written old 0 (asked_bytes h k.commitment ++ header_tag (key_of k.cipher.key) (asked_bytes h k.commitment)) n out → Written old 0 (start (request_with key h t)) n out
start_of_keys_written key h t k old out n p w = start_written key h t _ _ old out n p.sealing_key p.commitment w

-- the whole written: a start, and the frames over the rest
pub whole : (r : Rq.Request) (old mid part first : List ℕ) (at k : ℕ) → Written old 0 first at mid → first ≡ start r → length old ≡ length (sealed_message r) → length part ≡ k
    → part ≡ frames (suc (length r.text)) (sealing_key r.key r.id) r.id r.frame_length 1 r.text → put_mid at k mid part ≡ sealed_message r
whole r old mid part first at k w p l lk q =
    let both : first ++ part ≡ sealed_message r = ap₂ (λ a b. a ++ b) p q ∙ message_is r in
    let sum = length-append first part in
    let eq = ap length both in
    let n = w.next in
    let m : length mid ≡ length old = ap length w.holds ∙ length-spliced old 0 first w.room in
    written_all old (first ++ part) _ _ (omega arith)
    (written_then old mid _ first part 0 at (at + length part) w (record { room = omega arith; next = refl; holds = spliced_mid at k mid part part refl (sym lk) }))
    ∙ both

-- room for the start, and for the frames behind it
pub start_as_checked : (key : List ℕ) (h : HeaderRequest) (t : List ℕ) (c : CheckedHeader) → HandsOnHeader h c → length (start (request_with key h t)) ≡ c.header_len + 16
start_as_checked key h t c g = length_start key h t ∙ ap (λ n. n + 16) (sym (g.header_long (commitment key h.id.now) (length-commitment key h.id.now)))

at_most : (a b f n : ℕ) → a ≡ b → n ≡ b + f → a ≤ n
at_most a b f n p q = omega arith

pub start_room : (key : List ℕ) (h : HeaderRequest) (t c : List ℕ) (room : ℕ) → c ≡ commitment key h.id.now → 0 < h.frame_length → room ≡ length (sealed_message (request_with key h t)) → length (asked_bytes h c) + 16 ≤ room
start_room key h t c room p low l =
    at_most _ _ _ room (ap (λ x. length (asked_bytes h x) + 16) p ∙ sym (length_start key h t)) (l ∙ length_message (request_with key h t) low)

pub start_of_keys_room : (key : List ℕ) (h : HeaderRequest) (t : List ℕ) (k : Keys) (room : ℕ) → KeysFor key h.id.now k → 0 < h.frame_length → room ≡ length (sealed_message (request_with key h t)) → length (asked_bytes h k.commitment) + 16 ≤ room
start_of_keys_room key h t k room p low l = start_room key h t _ room p.commitment low l

pub frames_room : (r : Rq.Request) (first : List ℕ) (at room : ℕ) → at ≡ 0 + length first → first ≡ start r → 0 < r.frame_length → room ≡ length (sealed_message r) → room - at ≡ frames_length (length r.text) r.frame_length
frames_room r first at room n p low l =
    let e = ap length p in
    let m = length_message r low in
    omega arith

-- how long a part is
pub part_long : (xs : List ℕ) (a e : ℕ) → a ≤ e → e ≤ length xs → length (take (e - a) (drop a xs)) ≡ e - a
part_long xs a e h l = length-take-le (e - a) (drop a xs) (omega (arith, length-drop a xs))

-- what the check of a text says
pub text_short : (text frame_length : ℕ) → text_fits text frame_length ≡ true → (text ≤ 4294967295 * frame_length) × (text < 9223372036854775808)
unfolding end_marker
text_short text frame_length e =
    let p = and_parts _ _ e in
    (leb-true _ _ p.0, ltb-true _ _ p.1)

pub few_frames : (text frame_length : ℕ) → 0 < frame_length → text ≤ 4294967295 * frame_length → (text - 1) / frame_length < 4294967295
few_frames text frame_length p h = (div-lt_iff_lt-mul p).1 (omega arith)

pub regular_few : (text less frame_length : ℕ) → less ≡ text - 1 → 0 < frame_length → text_fits text frame_length ≡ true → (less / frame_length ≡ (text - 1) / frame_length) × (less / frame_length < 4294967295)
regular_few text less frame_length e p h =
    let same : less / frame_length ≡ (text - 1) / frame_length = ap (λ n. n / frame_length) e in
    let few = few_frames text frame_length p (text_short text frame_length h).0 in
    (same, omega arith)

-- a header that passed isn't long
pub header_short : (h : HeaderRequest) (c : CheckedHeader) → header_refusal (request_with [] h []) ≡ 0 → HandsOnHeader h c → c.header_len ≤ 12885100000
header_short h c e t =
    let p = header_passed (request_with [] h []) (sym e) in
    let k = commitment [] h.id.now in
    let long = t.header_long k (length-commitment [] h.id.now) in
    let keys = data_keys_told (data_keys h.encrypted_data_keys.now) _ (sym (cond-true _ _ _ (and_from _ _ (and_from _ _ (lt-ltb _ _ p.some_data_keys) (le-leb _ _ p.few_data_keys)) p.short_data_keys))) in
    let pairs_fit = p.context_fits in
    let ctx = context_short h.context.now in
    let parts = length_header (record { id = h.id.now; context = pairs h.context.now; encrypted_data_keys = data_keys h.encrypted_data_keys.now; frame_length = h.frame_length; commitment = k }) in
    let c32 = length-commitment [] h.id.now in
    let i32 = p.id in
    let kf = keys.fits in
    omega arith

pub product_short : (a b : ℕ) → a < 4294967296 → b < 4294967296 → a * b ≤ 18446744065119617025
product_short a b p q = let m : a * b ≤ 4294967295 * b = mul-le-mul_right b (let l : a ≤ 4294967295 = omega arith in l) in omega arith
