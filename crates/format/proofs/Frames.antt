-- Frames: one that was read is, written, the bytes that were read; and one that is written can be read.
use Rattle.std.proofs.Common.{◌≡◌, ℕ, ◌^◌, ◌<◌, ◌≤◌, Bool, true, false, ◌&&◌, eqb, ltb, leb, List, [], ◌∷◌, ◌++◌, length, sym, refl, ap, ◌∙◌, subst, ap₂, append_assoc, arith}
use Rattle.std.proofs.lemmas.Bool.{and_from, and_parts, eq-eqb, eqb-true, le-leb, lt-ltb, ne_eqb}
use Rattle.octets.specs.Bits.{pick}
use Rattle.octets.specs.Bytes.{all_bytes, bytes_eq, of_bytes, to_bytes}
use Rattle.octets.specs.Cut.{guard}
use Rattle.octets.proofs.Bits.{pick_false, pick_true}
use Rattle.octets.proofs.Cuts.{guard_true}
use Rattle.octets.proofs.Numbers.{all_bytes_parts, bytes_eq_refl, bytes_eq_true, length-to_bytes, of_bytes_below, to_of_bytes}
use Rattle.gcm.specs.Gcm.{Sealed}
use Rattle.format.specs.Piece.{final_bytes, frame_bytes}
use Rattle.format.specs.Reading.{ReadFrame, read_final, read_frame, read_regular}
use Rattle.format.specs.Request.{end_marker}
use Rattle.format.specs.Statements.{FrameIsWritten}
use Rattle.format.proofs.Fields.{of_four}
use Rattle.format.proofs.Steps.{and_then-cut, and_then_put, first_is_first, guard_gave}

-- a frame that was read
abbrev pub frame_written : ℕ → ReadFrame → List ℕ
frame_written n f = pick f.last (final_bytes n f.sealed) (frame_bytes n f.sealed)

pub record FrameRead (n : ℕ) (bs : List ℕ) (f : ReadFrame) : Type 0 where
  pub written : frame_written n f ++ f.rest ≡ bs
  pub small : n < 4294967296

four : (bs : List ℕ) (n : ℕ) → length bs ≡ 4 → all_bytes bs ≡ true → eqb (of_bytes bs) n ≡ true → (bs ≡ to_bytes 4 n) × (n < 4294967296)
four bs n l b e =
    let h : of_bytes bs ≡ n = eqb-true (of_bytes bs) n e in
    let s : of_bytes bs < 256 ^ length bs = of_bytes_below bs b in
    let t : of_bytes bs < 256 ^ 4 = subst (λ j. of_bytes bs < 256 ^ j) l s in
    (sym (to_of_bytes 4 bs l b) ∙ ap (λ k. to_bytes 4 k) h, omega arith)

regroup : (a b c d e f r : List ℕ) → (a ++ (b ++ (c ++ (d ++ (e ++ f))))) ++ r ≡ a ++ (b ++ (c ++ (d ++ (e ++ (f ++ r)))))
regroup a b c d e f r = simp append_assoc

regular : (size n : ℕ) (m bs : List ℕ) (f : ReadFrame) (fs : List ReadFrame) → m ≡ to_bytes 4 n → n < 4294967296 → read_regular size n bs ≡ f ∷ fs → FrameRead n (m ++ bs) f
unfolding pick
regular size n m bs f fs em hn e =
    let v = and_then-cut 12 bs _ f fs e in
    let v2 = guard_gave (bytes_eq v.front (to_bytes 12 n)) _ f fs v.then in
    let k = and_then-cut size v.rest _ f fs v2.1 in
    let t = and_then-cut 16 k.rest _ f fs k.then in
    let s : Sealed = record { ciphertext = k.front; tag = t.front } in
    let ev : v.front ≡ to_bytes 12 n = bytes_eq_true v.front (to_bytes 12 n) v2.0 in
    let w : frame_bytes n s ++ t.rest ≡ m ++ bs =
    simp append_assoc
    (ap₂ (λ xs ys. xs ++ ys) (sym em) (ap₂ (λ xs ys. xs ++ ys) (sym ev) (ap (λ ys. k.front ++ ys) t.whole ∙ k.whole) ∙ v.whole)) in
    subst (λ g. FrameRead n (m ++ bs) g) (first_is_first (record { last = false; sealed = s; rest = t.rest }) f [] fs t.then) (record { written = w; small = hn })

final : (size n : ℕ) (m bs : List ℕ) (f : ReadFrame) (fs : List ReadFrame) → m ≡ to_bytes 4 end_marker → all_bytes bs ≡ true → read_final size n bs ≡ f ∷ fs → FrameRead n (m ++ bs) f
unfolding pick
final size n m bs f fs em bb e =
    let a = and_then-cut 4 bs _ f fs e in
    let a2 = guard_gave (eqb (of_bytes a.front) n) _ f fs a.then in
    let ba = all_bytes_parts a.front a.rest (rw a.whole bb) in
    let a4 = four a.front n a.long ba.0 a2.0 in
    let v = and_then-cut 12 a.rest _ f fs a2.1 in
    let v2 = guard_gave (bytes_eq v.front (to_bytes 12 n)) _ f fs v.then in
    let ev : v.front ≡ to_bytes 12 n = bytes_eq_true v.front (to_bytes 12 n) v2.0 in
    let bv = all_bytes_parts v.front v.rest (rw v.whole ba.1) in
    let l = and_then-cut 4 v.rest _ f fs v2.1 in
    let bl = all_bytes_parts l.front l.rest (rw l.whole bv.1) in
    let l2 = guard_gave (leb (of_bytes l.front) size) _ f fs l.then in
    let k = and_then-cut (of_bytes l.front) l.rest _ f fs l2.1 in
    let t = and_then-cut 16 k.rest _ f fs k.then in
    let s : Sealed = record { ciphertext = k.front; tag = t.front } in
    let el : l.front ≡ to_bytes 4 (length k.front) = sym (to_of_bytes 4 l.front l.long bl.0) ∙ ap (λ i. to_bytes 4 i) (sym k.long) in
    let w : final_bytes n s ++ t.rest ≡ m ++ bs =
    regroup (to_bytes 4 end_marker) (to_bytes 4 n) (to_bytes 12 n) (to_bytes 4 (length k.front)) k.front t.front t.rest
    ∙ (ap₂ (λ xs ys. xs ++ ys) (sym em)
    (ap₂ (λ xs ys. xs ++ ys) (sym a4.0)
    (ap₂ (λ xs ys. xs ++ ys) (sym ev) (ap₂ (λ xs ys. xs ++ ys) (sym el) (ap (λ ys. k.front ++ ys) t.whole ∙ k.whole) ∙ l.whole) ∙ v.whole)
    ∙ a.whole)) in
    subst (λ g. FrameRead n (m ++ bs) g) (first_is_first (record { last = true; sealed = s; rest = t.rest }) f [] fs t.then) (record { written = w; small = a4.1 })

pub frame_read : (size n : ℕ) (bs : List ℕ) (f : ReadFrame) (fs : List ReadFrame) → all_bytes bs ≡ true → read_frame size n bs ≡ f ∷ fs → FrameRead n bs f
unfolding pick
frame_read size n bs f fs bb e =
    let m = and_then-cut 4 bs _ f fs e in
    let bm = all_bytes_parts m.front m.rest (rw m.whole bb) in
    subst (λ xs. FrameRead n xs f) m.whole (go m.front m.rest m.long bm.0 bm.1 (eqb (of_bytes m.front) end_marker) refl m.then)
  where
    go : (a r : List ℕ) → length a ≡ 4 → all_bytes a ≡ true → all_bytes r ≡ true → (b : Bool) → eqb (of_bytes a) end_marker ≡ b
        → pick b (read_final size n r) (guard (eqb (of_bytes a) n && ltb n end_marker) (read_regular size n r)) ≡ f ∷ fs → FrameRead n (a ++ r) f
    go a r l ba br true h e = final size n a r f fs (four a end_marker l ba h).0 br e
    go a r l ba br false h e =
        let p = guard_gave (eqb (of_bytes a) n && ltb n end_marker) _ f fs e in
        let q = and_parts (eqb (of_bytes a) n) (ltb n end_marker) p.0 in
        let d = four a n l ba q.0 in
        regular size n a r f fs d.0 d.1 p.1

pub frame_is_written : FrameIsWritten
unfolding FrameIsWritten
frame_is_written size n bs f bb e = (frame_read size n bs f [] bb e).written

-- a frame
pub regular_put : (size n : ℕ) (s : Sealed) (r : List ℕ) → n < 4294967295 → length s.ciphertext ≡ size → length s.tag ≡ 16
    → read_frame size n (frame_bytes n s ++ r) ≡ record { last = false; sealed = s; rest = r } ∷ []
unfolding end_marker
regular_put size n s r hn lc lt =
    let e : of_bytes (to_bytes 4 n) ≡ n = of_four n (omega arith) in
    ap (λ xs. read_frame size n xs)
    (append_assoc (to_bytes 4 n) (to_bytes 12 n ++ (s.ciphertext ++ s.tag)) r
    ∙ ap (λ xs. to_bytes 4 n ++ xs) (append_assoc (to_bytes 12 n) (s.ciphertext ++ s.tag) r ∙ ap (λ xs. to_bytes 12 n ++ xs) (append_assoc s.ciphertext s.tag r)))
    ∙ (and_then_put 4 (to_bytes 4 n) (to_bytes 12 n ++ (s.ciphertext ++ (s.tag ++ r))) _ (length-to_bytes 4 n)
    ∙ (pick_false (eqb (of_bytes (to_bytes 4 n)) end_marker) _ _ (ne_eqb (of_bytes (to_bytes 4 n)) end_marker (λ z. omega arith))
    ∙ (guard_true (eqb (of_bytes (to_bytes 4 n)) n && ltb n end_marker) _ (and_from (eqb (of_bytes (to_bytes 4 n)) n) (ltb n end_marker) (eq-eqb (of_bytes (to_bytes 4 n)) n e) (lt-ltb n end_marker (omega arith)))
    ∙ (and_then_put 12 (to_bytes 12 n) (s.ciphertext ++ (s.tag ++ r)) _ (length-to_bytes 12 n)
    ∙ (guard_true (bytes_eq (to_bytes 12 n) (to_bytes 12 n)) _ (bytes_eq_refl (to_bytes 12 n)) ∙ (and_then_put size s.ciphertext (s.tag ++ r) _ lc ∙ and_then_put 16 s.tag r _ lt))))))

pub final_put : (size n : ℕ) (s : Sealed) (r : List ℕ) → n < 4294967296 → size < 4294967296 → length s.ciphertext ≤ size → length s.tag ≡ 16
    → read_frame size n (final_bytes n s ++ r) ≡ record { last = true; sealed = s; rest = r } ∷ []
unfolding end_marker
final_put size n s r hn hs lc lt =
    let e : of_bytes (to_bytes 4 n) ≡ n = of_four n hn in
    let l : of_bytes (to_bytes 4 (length s.ciphertext)) ≡ length s.ciphertext = of_four (length s.ciphertext) (omega arith) in
    let a : List ℕ = s.ciphertext ++ (s.tag ++ r) in
    let b : List ℕ = to_bytes 4 (length s.ciphertext) ++ a in
    ap (λ xs. read_frame size n xs) (regroup6 (to_bytes 4 end_marker) (to_bytes 4 n) (to_bytes 12 n) (to_bytes 4 (length s.ciphertext)) s.ciphertext s.tag r)
    ∙ (and_then_put 4 (to_bytes 4 end_marker) (to_bytes 4 n ++ (to_bytes 12 n ++ b)) _ (length-to_bytes 4 end_marker)
    ∙ (pick_true (eqb (of_bytes (to_bytes 4 end_marker)) end_marker) _ _ (eq-eqb (of_bytes (to_bytes 4 end_marker)) end_marker (of_four end_marker (omega arith)))
    ∙ (and_then_put 4 (to_bytes 4 n) (to_bytes 12 n ++ b) _ (length-to_bytes 4 n)
    ∙ (guard_true (eqb (of_bytes (to_bytes 4 n)) n) _ (eq-eqb (of_bytes (to_bytes 4 n)) n e)
    ∙ (and_then_put 12 (to_bytes 12 n) b _ (length-to_bytes 12 n)
    ∙ (guard_true (bytes_eq (to_bytes 12 n) (to_bytes 12 n)) _ (bytes_eq_refl (to_bytes 12 n))
    ∙ (and_then_put 4 (to_bytes 4 (length s.ciphertext)) a _ (length-to_bytes 4 (length s.ciphertext))
    ∙ (guard_true (leb (of_bytes (to_bytes 4 (length s.ciphertext))) size) _ (le-leb (of_bytes (to_bytes 4 (length s.ciphertext))) size (omega arith))
    ∙ (and_then_put (of_bytes (to_bytes 4 (length s.ciphertext))) s.ciphertext (s.tag ++ r) _ (sym l) ∙ and_then_put 16 s.tag r _ lt)))))))))
  where
    regroup6 : (a b c d e f r : List ℕ) → (a ++ (b ++ (c ++ (d ++ (e ++ f))))) ++ r ≡ a ++ (b ++ (c ++ (d ++ (e ++ (f ++ r)))))
    regroup6 a b c d e f r = simp append_assoc
