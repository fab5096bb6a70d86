-- Laws of cutting from the front of bytes, and of steps that give none or one.
use Rattle.std.proofs.Common.{◌≡◌, ℕ, ◌<◌, ◌≤◌, Bool, true, false, List, [], ◌∷◌, ◌++◌, length, sym, refl, ap, ◌∙◌, ⊎_elim, arith, length-append, length-take-le, take_at, drop_at}
use lib.ListN as L
use Rattle.std.proofs.lemmas.Bool.{le-leb, lt-leb, cases_lt}
use Rattle.std.specs.Prelude.{MatchOption, Some, None, Option}
use Rattle.std.specs.Borrow.{Bor}
use Rattle.std.specs.List.{IsSplitAt}
use Rattle.octets.specs.Bits.{pick}
use Rattle.octets.specs.Bytes.{of_bytes}
use Rattle.octets.specs.Cut.{Cut, cut, cuts, and_then, guard, CutNumber, cut_number}
use Rattle.octets.proofs.Lists.{take_is, drop_is}

abbrev pub the_cut : List ℕ → List ℕ → Cut
the_cut f r = record { front = f; rest = r }

abbrev first_cut : List Cut → Cut
first_cut [] = the_cut [] []
first_cut (c ∷ cs) = c

pub cut_some : (n : ℕ) (bs f r : List ℕ) → n ≤ length bs → f ≡ L.take n bs → r ≡ L.drop n bs → (the_cut f r ∷ []) ≡ cut n bs
unfolding pick
cut_some n bs f r h p q = simp (le-leb n (length bs) h, take_is, drop_is) (ap (λ a. the_cut a r ∷ []) p ∙ ap (λ b. the_cut (L.take n bs) b ∷ []) q)

pub cut_none : (n : ℕ) (bs : List ℕ) → length bs < n → [] ≡ cut n bs
unfolding pick
cut_none n bs h = simp (lt-leb n (length bs) h)

-- the library's cut at a place
pub cut_checked : (n : ℕ) (bs : List ℕ) (r : Option (Bor (List ℕ) × Bor (List ℕ))) → MatchOption r (length bs < n) (λ p. IsSplitAt bs n p.0.now p.1.now) → cuts r ≡ cut n bs
cut_checked n bs None h = cut_none n bs h
cut_checked n bs (Some p) h = cut_some n bs p.0.now p.1.now h.0 h.1 h.2

-- what stands in front comes off
pub cut_front : (n : ℕ) (f r : List ℕ) → length f ≡ n → cut n (f ++ r) ≡ the_cut f r ∷ []
cut_front n f r e = sym (cut_some n (f ++ r) f r (omega (arith, length-append f r)) (sym (take_at f r n e)) (sym (drop_at f r n e)))

-- what a cut that gave one says
pub record Parts (n : ℕ) (bs f r : List ℕ) : Type 0 where
  pub within : n ≤ length bs
  pub front : f ≡ L.take n bs
  pub rest : r ≡ L.drop n bs
  pub long : length f ≡ n
  pub joined : bs ≡ f ++ r

pub cut_parts : (n : ℕ) (bs f r : List ℕ) → (the_cut f r ∷ []) ≡ cut n bs → Parts n bs f r
cut_parts n bs f r e =
    ⊎_elim (λ h. absurd (let z : ◌≡◌ {A = List Cut} (the_cut f r ∷ []) [] = e ∙ sym (cut_none n bs h) in let y : ◌≡◌ {A = ℕ} 0 1 = cc in omega arith)) here (cases_lt (length bs) n)
  where
    here : n ≤ length bs → Parts n bs f r
    here h =
        let s = e ∙ sym (cut_some n bs (L.take n bs) (L.drop n bs) h refl refl) in
        let p : f ≡ L.take n bs = ap (λ l. (first_cut l).front) s in
        let q : r ≡ L.drop n bs = ap (λ l. (first_cut l).rest) s in
        record { within = h; front = p; rest = q; long = ap length p ∙ length-take-le n bs h; joined = sym (L.take-append-drop n bs) ∙ ap (λ l. l ++ L.drop n bs) (sym p) ∙ ap (λ l. f ++ l) (sym q) }

-- a step that gave one, and a step that gave none
pub and_then_some : {A B : Type 0} (x : A) (xs : List A) (f : A → List B) → (x ∷ []) ≡ xs → f x ≡ and_then xs f
unfolding and_then
and_then_some x xs f e = ap (λ l. and_then l f) e

pub and_then_none : {A B : Type 0} (xs : List A) (f : A → List B) → [] ≡ xs → [] ≡ and_then xs f
unfolding and_then
and_then_none xs f e = ap (λ l. and_then l f) e

pub and_then_ext : {A B : Type 0} (xs : List A) (f g : A → List B) → ((x : A) → f x ≡ g x) → and_then xs f ≡ and_then xs g
unfolding and_then
and_then_ext [] f g e = refl
and_then_ext (x ∷ xs) f g e = e x

pub and_then_assoc : {A B C : Type 0} (xs : List A) (f : A → List B) (g : B → List C) → and_then (and_then xs f) g ≡ and_then xs (λ x. and_then (f x) g)
unfolding and_then
and_then_assoc [] f g = refl
and_then_assoc (x ∷ xs) f g = refl

pub guard-and_then : {A B : Type 0} (b : Bool) (xs : List A) (f : A → List B) → guard b (and_then xs f) ≡ and_then (guard b xs) f
unfolding and_then guard
guard-and_then true xs f = refl
guard-and_then false xs f = refl

pub guard_true : {A : Type 0} (b : Bool) (xs : List A) → b ≡ true → guard b xs ≡ xs
unfolding guard
guard_true b xs e = ap (λ v. guard v xs) e

pub guard_false : {A : Type 0} (b : Bool) (xs : List A) → b ≡ false → guard b xs ≡ []
unfolding guard
guard_false b xs e = ap (λ v. guard v xs) e

-- a number off the front, and what follows from it
abbrev pub the_number : ℕ → List ℕ → CutNumber
the_number n r = record { value = n; rest = r }

pub number_cut_some : (k : ℕ) (bs : List ℕ) (n : ℕ) (r : List ℕ) → k ≤ length bs → n ≡ of_bytes (L.take k bs) → r ≡ L.drop k bs → (the_number n r ∷ []) ≡ cut_number k bs
number_cut_some k bs n r h p q =
    ap (λ v. the_number v r ∷ []) p ∙ and_then_some (the_cut (L.take k bs) r) (cut k bs) (λ c. the_number (of_bytes c.front) c.rest ∷ []) (cut_some k bs (L.take k bs) r h refl q)

pub number_cut_none : (k : ℕ) (bs : List ℕ) → length bs < k → [] ≡ cut_number k bs
number_cut_none k bs h = and_then_none (cut k bs) (λ c. the_number (of_bytes c.front) c.rest ∷ []) (cut_none k bs h)

pub number_then : {B : Type 0} (k : ℕ) (bs : List ℕ) (f : ℕ → List ℕ → List B) → and_then (cut_number k bs) (λ c. f c.value c.rest) ≡ and_then (cut k bs) (λ c. f (of_bytes c.front) c.rest)
unfolding and_then
number_then k bs f = and_then_assoc (cut k bs) (λ c. the_number (of_bytes c.front) c.rest ∷ []) (λ c. f c.value c.rest)

pub number_some : {B : Type 0} (k : ℕ) (bs : List ℕ) (n : ℕ) (r : List ℕ) (f : ℕ → List ℕ → List B) → (the_number n r ∷ []) ≡ cut_number k bs → f n r ≡ and_then (cut k bs) (λ c. f (of_bytes c.front) c.rest)
number_some k bs n r f e = and_then_some (the_number n r) (cut_number k bs) (λ c. f c.value c.rest) e ∙ number_then k bs f

pub number_none : {B : Type 0} (k : ℕ) (bs : List ℕ) (f : Cut → List B) → [] ≡ cut_number k bs → [] ≡ and_then (cut k bs) f
unfolding and_then
number_none k bs f e = none_from (cut k bs) e
  where
    none_from : (cs : List Cut) → [] ≡ and_then cs (λ c. the_number (of_bytes c.front) c.rest ∷ []) → [] ≡ and_then cs f
    none_from [] e = refl
    none_from (c ∷ cs) e = absurd (let y : ◌≡◌ {A = ℕ} 0 1 = cc in omega arith)
