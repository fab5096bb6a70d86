-- Where bytes are as many as any frame has, what follows them doesn't make a frame of them.
use Rattle.std.proofs.Common.{◌≡◌, ℕ, ◌+◌, ◌≤◌, Bool, true, false, ◌&&◌, eqb, ltb, leb, ◌⊎◌, List, [], ◌∷◌, ◌++◌, length, sym, refl, ap, ◌∙◌, ⊎_elim, arith, length-append}
use lib.ListN as L
use Rattle.std.proofs.lemmas.List.{append-nil, drop-append-le, take-append-le}
use Rattle.std.proofs.lemmas.Bool.{leb-true}
use Rattle.octets.specs.Bits.{pick}
use Rattle.octets.specs.Bytes.{bytes_eq, of_bytes, to_bytes}
use Rattle.octets.specs.Cut.{Cut, cut, and_then, guard}
use Rattle.octets.proofs.Cuts.{cut_some}
use Rattle.format.specs.Reading.{read_final, read_frame, read_regular}
use Rattle.format.specs.Request.{end_marker}
use Rattle.format.proofs.Steps.{cut_is}
use Rattle.format.proofs.Further.{frame_on}
use Rattle.frames.specs.Next.{body}

-- none or one, with q done to it
abbrev mapped : {A : Type 0} → (A → A) → List A → List A
mapped q [] = []
mapped q (x ∷ xs) = q x ∷ []

guard_tracks : {A : Type 0} (q : A → A) (b : Bool) (xs ys : List A) → (b ≡ true → ys ≡ mapped q xs) → guard b ys ≡ mapped q (guard b xs)
unfolding guard
guard_tracks q true xs ys h = h refl
guard_tracks q false xs ys h = refl

pick_tracks : {A : Type 0} (q : A → A) (b : Bool) (xs ys us vs : List A) → ys ≡ mapped q xs → vs ≡ mapped q us → pick b ys vs ≡ mapped q (pick b xs us)
unfolding pick
pick_tracks q true xs ys us vs g h = g
pick_tracks q false xs ys us vs g h = h

and_then_tracks : {A B : Type 0} (p : A → A) (q : B → B) (xs ys : List A) (f g : A → List B) → ys ≡ mapped p xs → ((x : A) (more : List A) → xs ≡ x ∷ more → g (p x) ≡ mapped q (f x)) → and_then ys g ≡ mapped q (and_then xs f)
unfolding and_then
and_then_tracks p q [] ys f g e h = ap (λ l. and_then l g) e
and_then_tracks p q (x ∷ xs) ys f g e h = ap (λ l. and_then l g) e ∙ h x xs refl

module _ (cs : List ℕ) where
  abbrev cut_on : Cut → Cut
  cut_on c = record { front = c.front; rest = c.rest ++ cs }

  cut_tracks : {B : Type 0} (q : B → B) (n : ℕ) (bs : List ℕ) (f g : Cut → List B) → n ≤ length bs → ((c : Cut) → n + length c.rest ≡ length bs → g (cut_on c) ≡ mapped q (f c))
      → and_then (cut n (bs ++ cs)) g ≡ mapped q (and_then (cut n bs) f)
  cut_tracks q n bs f g h k =
      and_then_tracks cut_on q (cut n bs) (cut n (bs ++ cs)) f g
      (sym (cut_some n (bs ++ cs) (L.take n bs) (L.drop n bs ++ cs) (omega (arith, length-append bs cs)) (sym (take-append-le n bs cs h)) (sym (drop-append-le n bs cs h)))
      ∙ ap (λ l. mapped cut_on l) (cut_some n bs (L.take n bs) (L.drop n bs) h refl refl))
      (λ c more e. let p = cut_is n bs c more e in let a = p.0 in let b = ap length p.1 in let s = length-append c.front c.rest in k c (omega arith))

  body_tracks : (last : Bool) (k : ℕ) (bs : List ℕ) → k + 16 ≤ length bs → body last k (bs ++ cs) ≡ mapped (frame_on cs) (body last k bs)
  body_tracks last k bs h =
      cut_tracks (frame_on cs) k bs _ _ (omega arith) (λ c e. cut_tracks (frame_on cs) 16 c.rest _ _ (omega arith) (λ t e'. refl))

  regular_tracks : (size n : ℕ) (bs : List ℕ) → size + 36 ≤ length bs → read_regular size n (bs ++ cs) ≡ mapped (frame_on cs) (read_regular size n bs)
  regular_tracks size n bs h =
      cut_tracks (frame_on cs) 12 bs _ _ (omega arith) (λ v e. guard_tracks (frame_on cs) (bytes_eq v.front (to_bytes 12 n)) _ _ (λ _. body_tracks false size v.rest (omega arith)))

  final_tracks : (size n : ℕ) (bs : List ℕ) → size + 36 ≤ length bs → read_final size n (bs ++ cs) ≡ mapped (frame_on cs) (read_final size n bs)
  final_tracks size n bs h =
      cut_tracks (frame_on cs) 4 bs _ _ (omega arith) (λ m a. guard_tracks (frame_on cs) (eqb (of_bytes m.front) n) _ _ (λ _.
      cut_tracks (frame_on cs) 12 m.rest _ _ (omega arith) (λ v b. guard_tracks (frame_on cs) (bytes_eq v.front (to_bytes 12 n)) _ _ (λ _.
      cut_tracks (frame_on cs) 4 v.rest _ _ (omega arith) (λ l c. guard_tracks (frame_on cs) (leb (of_bytes l.front) size) _ _ (λ w.
      body_tracks true (of_bytes l.front) l.rest (omega (arith, leb-true (of_bytes l.front) size w))))))))

  frame_tracks : (size n : ℕ) (bs : List ℕ) → size + 40 ≤ length bs → read_frame size n (bs ++ cs) ≡ mapped (frame_on cs) (read_frame size n bs)
  frame_tracks size n bs h =
      cut_tracks (frame_on cs) 4 bs _ _ (omega arith) (λ m e.
      pick_tracks (frame_on cs) (eqb (of_bytes m.front) end_marker) _ _ _ _ (final_tracks size n m.rest (omega arith))
      (guard_tracks (frame_on cs) (eqb (of_bytes m.front) n && ltb n end_marker) _ _ (λ _. regular_tracks size n m.rest (omega arith))))

-- no frame, whatever follows: nothing does, or there were enough bytes
pub no_frame_then : (size n : ℕ) (bs more : List ℕ) → (more ≡ []) ⊎ (size + 40 ≤ length bs) → [] ≡ read_frame size n bs → [] ≡ read_frame size n (bs ++ more)
no_frame_then size n bs more w e =
    ⊎_elim (λ z. e ∙ ap (λ l. read_frame size n l) (sym (append-nil bs) ∙ ap (λ m. bs ++ m) (sym z))) (λ h. ap (λ l. mapped (frame_on more) l) e ∙ sym (frame_tracks more size n bs h)) w
