-- How much of the bytes a frame that was read takes, and that a regular frame's number is below the end marker.
use Rattle.std.proofs.Common.{◌≡◌, ℕ, ◌+◌, ◌<◌, ◌≤◌, Bool, true, false, ◌&&◌, eqb, ltb, leb, List, [], ◌∷◌, ◌++◌, length, ap, subst, arith, length-append}
use Rattle.std.proofs.lemmas.Bool.{and_parts, ltb-true, true≢false}
use Rattle.octets.specs.Bits.{pick}
use Rattle.octets.specs.Bytes.{bytes_eq, of_bytes, to_bytes}
use Rattle.format.specs.Reading.{ReadFrame, guard, read_final, read_frame, read_regular}
use Rattle.format.specs.Request.{end_marker}
use Rattle.format.proofs.Steps.{and_then-cut, first_is_first, guard_gave}
use Rattle.frames.specs.Next.{body, the_frame}

pub record Taken (n : ℕ) (bs : List ℕ) (f : ReadFrame) : Type 0 where
  pub total : length f.sealed.ciphertext + (length f.rest + 32) ≤ length bs
  pub below : f.last ≡ false → n < 4294967295

sum : (a b c : List ℕ) (k : ℕ) → length a ≡ k → a ++ b ≡ c → k + length b ≡ length c
sum a b c k l e = let s = length-append a b in let t = ap length e in omega arith

body_taken : (last : Bool) (k n : ℕ) (all bs : List ℕ) (f : ReadFrame) (fs : List ReadFrame) → 16 + length bs ≤ length all → (last ≡ false → n < 4294967295) → body last k bs ≡ f ∷ fs → Taken n all f
body_taken last k n all bs f fs h b e =
    let c = and_then-cut k bs _ f fs e in
    let t = and_then-cut 16 c.rest _ f fs c.then in
    let p = sum c.front c.rest bs k c.long c.whole in
    let q = sum t.front t.rest c.rest 16 t.long t.whole in
    let l = c.long in
    subst (Taken n all) (first_is_first (the_frame last c.front t.front t.rest) f [] fs t.then) (record { total = omega arith; below = b })

regular_taken : (size n : ℕ) (all bs : List ℕ) (f : ReadFrame) (fs : List ReadFrame) → 4 + length bs ≤ length all → n < 4294967295 → read_regular size n bs ≡ f ∷ fs → Taken n all f
regular_taken size n all bs f fs h b e =
    let v = and_then-cut 12 bs _ f fs e in
    let g = guard_gave (bytes_eq v.front (to_bytes 12 n)) _ f fs v.then in
    let p = sum v.front v.rest bs 12 v.long v.whole in
    body_taken false size n all v.rest f fs (omega arith) (λ _. b) g.1

final_taken : (size n : ℕ) (all bs : List ℕ) (f : ReadFrame) (fs : List ReadFrame) → 4 + length bs ≤ length all → read_final size n bs ≡ f ∷ fs → Taken n all f
final_taken size n all bs f fs h e =
    let m = and_then-cut 4 bs _ f fs e in
    let m2 = guard_gave (eqb (of_bytes m.front) n) _ f fs m.then in
    let v = and_then-cut 12 m.rest _ f fs m2.1 in
    let v2 = guard_gave (bytes_eq v.front (to_bytes 12 n)) _ f fs v.then in
    let l = and_then-cut 4 v.rest _ f fs v2.1 in
    let l2 = guard_gave (leb (of_bytes l.front) size) _ f fs l.then in
    let p = sum m.front m.rest bs 4 m.long m.whole in
    let q = sum v.front v.rest m.rest 12 v.long v.whole in
    let r = sum l.front l.rest v.rest 4 l.long l.whole in
    body_taken true (of_bytes l.front) n all l.rest f fs (omega arith) (λ z. absurd (true≢false z)) l2.1

pub frame_taken : (size n : ℕ) (bs : List ℕ) (f : ReadFrame) (fs : List ReadFrame) → read_frame size n bs ≡ f ∷ fs → Taken n bs f
unfolding pick end_marker
frame_taken size n bs f fs e =
    let m = and_then-cut 4 bs _ f fs e in
    let p = sum m.front m.rest bs 4 m.long m.whole in
    go (of_bytes m.front) m.rest (omega arith) (eqb (of_bytes m.front) end_marker) m.then
  where
    go : (a : ℕ) (r : List ℕ) → 4 + length r ≤ length bs → (b : Bool) → pick b (read_final size n r) (guard (eqb a n && ltb n end_marker) (read_regular size n r)) ≡ f ∷ fs → Taken n bs f
    go a r h true e = final_taken size n bs r f fs h e
    go a r h false e =
        let g = guard_gave (eqb a n && ltb n end_marker) _ f fs e in
        regular_taken size n bs r f fs h (ltb-true n 4294967295 (and_parts (eqb a n) (ltb n end_marker) g.0).1) g.1
