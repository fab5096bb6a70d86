-- How a frame's parts lie one after another, and how long it is.
use Rattle.std.proofs.Common.{◌≡◌, ℕ, ◌/◌, ◌%◌, ◌<◌, ◌≤◌, Bool, List, [], ◌∷◌, ◌++◌, length, sym, refl, ap, ◌∙◌, ap₂, append_assoc, arith, length-append, ◌+◌, ◌-◌, true, false, cond, eqb, take, drop, length-drop, length-take-le}
use borrow.Rule.Slice.PartMut.{put_mid}
use Rattle.std.proofs.lemmas.Bool.{eq-eqb, cond-true}
use Rattle.octets.specs.Bits.{pick}
use Rattle.octets.specs.Bytes.{to_bytes}
use Rattle.octets.specs.Splice.{Written}
use Rattle.octets.proofs.Numbers.{length-to_bytes}
use Rattle.octets.proofs.Splice.{written_then, written_all, spliced_mid}
use Rattle.gcm.specs.Gcm.{Sealed}
use Rattle.gcm.specs.Calls.{SealedAs, Opens}
use Rattle.format.specs.Request.{end_marker}
use Rattle.format.specs.Piece.{frame_aad, frame_bytes, final_bytes, regular_label, final_label}
use Rattle.frames.specs.Cipher.{sealed, unsealed}
use Rattle.frames.specs.Kind.{is_final, aad_length, front_length}
use Rattle.frames.specs.Frame.{regular_frame, final_frame, frame_front, sealed_frame, OpensFrame}
use Rattle.frames.specs.declared.frame.FrameKind.{FrameKind}
use Rattle.frames.specs.declared.frame.FrameKind.TheVariants.{Regular, Final}

-- a number below 2^32 in twelve bytes
pub nonce_is : (n : ℕ) → n < 4294967296
    → 0 ∷ (0 ∷ (0 ∷ (0 ∷ (0 ∷ (0 ∷ (0 ∷ (0 ∷ (n / 16777216 % 256 ∷ (n / 65536 % 256 ∷ (n / 256 % 256 ∷ (n % 256 ∷ []))))))))))) ≡ to_bytes 12 n
unfolding to_bytes
nonce_is n h =
    let b : n / 65536 ≡ n / 256 / 256 = omega arith in
    let c : n / 16777216 ≡ n / 256 / 256 / 256 = omega arith in
    let z : n / 256 / 256 / 256 / 256 ≡ 0 = omega arith in
    rw (b, c, z) refl

regroup : (a b c d e : List ℕ) → (a ++ (b ++ (c ++ d))) ++ e ≡ a ++ (b ++ (c ++ (d ++ e)))
regroup a b c d e = simp append_assoc

-- a front, and the ciphertext and the tag of one call of the cipher, are a frame
pub in_parts : (kind : FrameKind) (key id text : List ℕ) (n : ℕ) (s : Sealed) → s ≡ sealed key (to_bytes 12 n) (frame_aad id (is_final kind) n (length text)) text → length s.ciphertext ≡ length text
    → frame_front kind n (length text) ++ (s.ciphertext ++ s.tag) ≡ sealed_frame kind key id n text
unfolding regular_frame final_frame sealed
in_parts Regular key id text n s e l = append_assoc (to_bytes 4 n) (to_bytes 12 n) _ ∙ ap (frame_bytes n) e
in_parts Final key id text n s e l =
    regroup (to_bytes 4 end_marker) (to_bytes 4 n) (to_bytes 12 n) (to_bytes 4 (length text)) (s.ciphertext ++ s.tag)
    ∙ ap (λ k. to_bytes 4 end_marker ++ (to_bytes 4 n ++ (to_bytes 12 n ++ (to_bytes 4 k ++ (s.ciphertext ++ s.tag))))) (sym l) ∙ ap (final_bytes n) e

pub frame_in_parts : (kind : FrameKind) (key id text nonce aad old front tag c t : List ℕ) (n : ℕ) → nonce ≡ to_bytes 12 n → aad ≡ frame_aad id (is_final kind) n (length text)
    → SealedAs key nonce aad text old tag c → length c ≡ length old → front ≡ frame_front kind n (length text) → t ≡ tag → front ++ (c ++ t) ≡ sealed_frame kind key id n text
unfolding sealed
frame_in_parts kind key id text nonce aad old front tag c t n p q s l f e =
    ap₂ (λ a b. a ++ (c ++ b)) f e
    ∙ in_parts kind key id text n (record { ciphertext = c; tag = tag })
    (ap₂ (λ a b. record { ciphertext = a; tag = b }) s.ciphertext s.tag_is ∙ ap₂ (λ v a. sealed key v a text) p q) (l ∙ s.room)

-- a ciphertext written from the front on, and its tag behind it
pub sealed_then_tag : (old part tag out ciphertext t : List ℕ) (k at end : ℕ) → part ≡ ciphertext → tag ≡ t → k ≡ length part → at ≡ length part → length old ≡ length part + length tag
    → Written (put_mid 0 k old part) at tag end out → out ≡ ciphertext ++ t
sealed_then_tag old part tag out ciphertext t k at end p q ek ea l w =
    written_all old (part ++ tag) out end (omega (arith, length-append part tag))
    (written_then old (put_mid 0 k old part) out part tag 0 at end (record { room = omega arith; next = omega arith; holds = spliced_mid 0 k old part part refl ek }) w)
    ∙ ap₂ (λ a b. a ++ b) p q

-- something in front, and behind it what a call wrote over the rest
pub record Behind (b : Bool) (front new out : List ℕ) : Type 0 where
  pub fits : b ≡ true
  pub holds : out ≡ front ++ new

pub behind : (old mid front part new : List ℕ) (b : Bool) (at k room : ℕ) → Written old 0 front at mid → length old ≡ length front + room → k ≡ length mid - at → length mid ≡ length old
    → b ≡ eqb (length (take k (drop at mid))) room → length part ≡ length (take k (drop at mid)) → part ≡ cond b new (take k (drop at mid)) → Behind b front new (put_mid at k mid part)
behind old mid front part new b at k room w l ek lm e lp p =
    let n : at ≡ 0 + length front = w.next in
    let d = length-drop at mid in
    let t : length (take k (drop at mid)) ≡ k = length-take-le k (drop at mid) (omega arith) in
    let yes : b ≡ true = e ∙ eq-eqb _ _ (omega arith) in
    let is : part ≡ new = p ∙ cond-true b new _ yes in
    let ln : length new ≡ length part = ap length (sym is) in
    record {
      fits = yes;
      holds =
          written_all old (front ++ new) _ _ (omega (arith, length-append front new))
          (written_then old mid _ front new 0 at (at + length new) w (record { room = omega arith; next = refl; holds = spliced_mid at k mid part new is (omega arith) }));
    }

pub cond_ext : {A : Type 0} (b : Bool) (x y z : A) → (b ≡ true → x ≡ y) → cond b x z ≡ cond b y z
cond_ext true x y z h = h refl
cond_ext false x y z h = refl

-- one call of the cipher opens a frame
pub opens_frame : (key id nonce aad ciphertext tag rest old out : List ℕ) (n : ℕ) (last : Bool) (r : Bool) → nonce ≡ to_bytes 12 n → aad ≡ frame_aad id last n (length ciphertext)
    → Opens key nonce aad ciphertext tag old r out → OpensFrame key id n (record { last = last; sealed = record { ciphertext = ciphertext; tag = tag }; rest = rest }) old r out
unfolding unsealed
opens_frame key id nonce aad ciphertext tag rest old out n last r p q o = record {
  text = λ h. o.text h ∙ ap₂ (λ v a. unsealed key v a (record { ciphertext = ciphertext; tag = tag })) p q;
  lacks = o.lacks;
  holds = o.holds;
}

-- how long additional data and fronts are
pub length_frame_aad : (id : List ℕ) (last : Bool) (n k : ℕ) → length (frame_aad id last n k) ≡ length id + (length (pick last final_label regular_label) + 12)
length_frame_aad id last n k =
    let label : List ℕ = pick last final_label regular_label in
    omega (arith, length-append id (label ++ (to_bytes 4 n ++ to_bytes 8 k)), length-append label (to_bytes 4 n ++ to_bytes 8 k), length-append (to_bytes 4 n) (to_bytes 8 k), length-to_bytes 4 n, length-to_bytes 8 k)

pub length_aad : (kind : FrameKind) (id : List ℕ) (n k : ℕ) → length id ≡ 32 → length (frame_aad id (is_final kind) n k) ≡ aad_length kind
unfolding pick regular_label final_label
length_aad Regular id n k l = omega (arith, length_frame_aad id false n k)
length_aad Final id n k l = omega (arith, length_frame_aad id true n k)

pub aad_within : (kind : FrameKind) → aad_length kind ≤ 78
aad_within Regular = omega arith
aad_within Final = omega arith

pub length_front : (kind : FrameKind) (n k : ℕ) → length (frame_front kind n k) ≡ front_length kind
length_front Regular n k = simp (length-append, length-to_bytes)
length_front Final n k = simp (length-append, length-to_bytes)
