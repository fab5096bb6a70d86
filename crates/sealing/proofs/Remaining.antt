-- Frames sealed in a loop: those written so far and those of the text that is left are all frames.
use Rattle.std.proofs.Common.{◌≡◌, ℕ, suc, ◌+◌, ◌-◌, ◌*◌, ◌/◌, ◌<◌, ◌≤◌, List, ◌++◌, length, sym, ap, ◌∙◌, ap₂, append_assoc, add-mul, mul-le-mul_right, arith, length-drop, drop-drop, false, ◌&&◌, eqb, ltb, lt_of_mul-lt-mul_right}
use borrow.Rule.Slice.PartMut.{put_mid}
use lib.ListN as L
use Rattle.std.proofs.Math.Nat.{div-mul-le_self}
use Rattle.std.proofs.lemmas.List.{take_rest, drop_all, append-nil}
use Rattle.std.proofs.lemmas.Slice.{take-put_mid}
use Rattle.std.proofs.lemmas.Bool.{both_ways, and_from, lt-ltb, eq-eqb}
use Rattle.format.specs.Message.{frames}
use Rattle.frames.specs.Frame.{regular_frame, final_frame}
use Rattle.sealing.specs.Whole.{frames_length}
use Rattle.sealing.proofs.Frames.{frames_more, frames_last, frames_fuel}

-- where the frames of a text lie, of which i come before one that isn't the last
pub record Place (text size i sealed : ℕ) : Type 0 where
  pub more : i * size + size < text
  pub room : i * sealed + sealed ≤ frames_length text size

pub record LastPlace (text size n sealed : ℕ) : Type 0 where
  pub within : n * size ≤ text
  pub short : text ≤ n * size + size
  pub room : n * sealed + (text - n * size + 40) ≡ frames_length text size

pub last_place : (text size n sealed : ℕ) → 0 < size → sealed ≡ size + 32 → n ≡ (text - 1) / size → LastPlace text size n sealed
last_place text size n sealed p e d =
    let s : n * sealed ≡ n * (size + 32) = ap (λ k. n * k) e in
    let z : n * size ≡ (text - 1) / size * size = ap (λ k. k * size) d in
    let low = div-mul-le_self (text - 1) size in
    let high : text - 1 < size * ((text - 1) / size) + size = omega arith in
    record { within = omega arith; short = omega arith; room = omega arith }

pub place : (text size i n sealed : ℕ) → 0 < size → sealed ≡ size + 32 → n ≡ (text - 1) / size → i < n → Place text size i sealed
place text size i n sealed p e d h =
    let l = last_place text size n sealed p e d in
    let within = l.within in
    let room = l.room in
    let h1 : i + 1 ≤ n = omega arith in
    let a : (i + 1) * size ≤ n * size = mul-le-mul_right size h1 in
    let b : (i + 1) * sealed ≤ n * sealed = mul-le-mul_right sealed h1 in
    let c : n * size ≤ text - 1 = ap-le d (div-mul-le_self (text - 1) size) in
    record { more = omega arith; room = omega arith }
  where
    ap-le : n ≡ (text - 1) / size → (text - 1) / size * size ≤ text - 1 → n * size ≤ text - 1
    ap-le q m = rw q m

-- a count that is at its end
pub at_last : (done regular : ℕ) → done ≤ regular → regular ≤ done → done ≡ regular
at_last done regular h k = omega arith

-- the frames of what is left after i regular ones
abbrev pub left : List ℕ → List ℕ → List ℕ → ℕ → ℕ → List ℕ
left key id text size i = frames (suc (length (L.drop (i * size) text))) key id size (i + 1) (L.drop (i * size) text)

pub left_more : (key id text all out part : List ℕ) (size i at k m end : ℕ) → 0 < size → i * size + size < length text → m ≡ size → end ≡ at + k → end ≤ length out → length part ≡ k
    → part ≡ regular_frame key id (i + 1) (L.take m (L.drop (i * size) text)) → L.take at out ++ left key id text size i ≡ all → L.take end (put_mid at k out part) ++ left key id text size (i + 1) ≡ all
left_more key id text all out part size i at k m end p h em ee room long e w =
    let rest : List ℕ = L.drop (i * size) text in
    let some : length rest ≡ length text - i * size = length-drop (i * size) text in
    let next : L.drop ((i + 1) * size) text ≡ L.drop size rest = ap (λ n. L.drop n text) (let s = add-mul i 1 size in let z : (i + 1) * size ≡ i * size + size = omega arith in z) ∙ sym (drop-drop size (i * size) text) in
    let one = length-drop size rest in
    ap (λ l. l ++ left key id text size (i + 1)) (take-put_mid at k out part end (omega arith) (omega arith))
    ∙ append_assoc (L.take at out) part (left key id text size (i + 1))
    ∙ ap (λ l. L.take at out ++ l)
    (ap₂ (λ a t. a ++ frames (suc (length t)) key id size (i + 1 + 1) t) (e ∙ ap (λ n. regular_frame key id (i + 1) (L.take n rest)) em) next
    ∙ ap (λ l. regular_frame key id (i + 1) (L.take size rest) ++ l) (frames_fuel (suc (length (L.drop size rest))) (length rest) key id (L.drop size rest) size (i + 1 + 1) p (omega arith) (omega arith))
    ∙ frames_more (length rest) key id rest size (i + 1) (omega arith))
    ∙ w

pub left_end : (key id text all out part : List ℕ) (size i at k m : ℕ) → length text ≤ i * size + size → i * size ≤ length text → m ≡ length text - i * size → k ≡ length out - at → at ≤ length out
    → part ≡ final_frame key id (i + 1) (L.take m (L.drop (i * size) text)) → L.take at out ++ left key id text size i ≡ all → put_mid at k out part ≡ all
left_end key id text all out part size i at k m h l em ek room e w =
    let rest : List ℕ = L.drop (i * size) text in
    let some : length rest ≡ length text - i * size = length-drop (i * size) text in
    let whole : part ≡ left key id text size i = e ∙ ap (λ n. final_frame key id (i + 1) (L.take n rest)) em ∙ ap (final_frame key id (i + 1)) (take_rest text (i * size)) ∙ frames_last (length rest) key id rest size (i + 1) (omega arith) in
    ap (λ b. L.take at out ++ (part ++ b)) (drop_all k (L.drop at out) (omega (arith, length-drop at out))) ∙ ap (λ l. L.take at out ++ l) (append-nil part ∙ whole) ∙ w

-- numbers of frames
pub number_more : (n from size text : ℕ) → from + size ≡ n * size → size < text - from → text ≤ 4294967295 * size → n < 4294967295
number_more n from size text e h f = lt_of_mul-lt-mul_right size (omega arith)

pub number_next : (n from size : ℕ) → from + size ≡ n * size → from + size + size ≡ (n + 1) * size
number_next n from size e = let m = add-mul n 1 size in omega arith

-- a final frame that fits isn't refused
pub final_fits : (text room : ℕ) → false ≡ (ltb text 4294967296 && eqb room (text + 40)) → text < 4294967296 → room ≡ text + 40 → ⊥
final_fits text room e p q = both_ways _ (sym e) (and_from _ _ (lt-ltb text 4294967296 p) (eq-eqb room (text + 40) q))
