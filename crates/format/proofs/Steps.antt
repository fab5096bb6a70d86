-- Readers step by step: what a step that went well says, and that it goes well where it can.
use Rattle.std.proofs.Common.{◌≡◌, ℕ, Bool, true, false, leb, List, [], ◌∷◌, ◌++◌, length, sym, refl, ap, subst, arith}
use Rattle.std.proofs.lemmas.Bool.{leb-true}
use Rattle.octets.specs.Bits.{pick}
use Rattle.octets.specs.Bytes.{drop, take}
use Rattle.octets.specs.Cut.{Cut, and_then, cut, guard}
use Rattle.octets.proofs.Cuts.{and_then_some, cut_front}
use Rattle.octets.proofs.Lists.{length-take, take-drop}

-- none is not one
pub none_is_one : {A : Type 0} (B : Type 0) (x : A) (xs : List A) → [] ≡ x ∷ xs → B
none_is_one B x xs e = absurd (let z : ◌≡◌ {A = ℕ} 0 1 = cc in omega arith)

-- a list that has one
pub record Step {A B : Type 0} (xs : List A) (f : A → List B) (ys : List B) : Type 0 where
  pub one : A
  pub more : List A
  pub here : xs ≡ one ∷ more
  pub then : f one ≡ ys

pub and_then_gave : {A B : Type 0} (xs : List A) (f : A → List B) (y : B) (ys : List B) → and_then xs f ≡ y ∷ ys → Step xs f (y ∷ ys)
unfolding and_then
and_then_gave [] f y ys e = none_is_one _ y ys e
and_then_gave (x ∷ xs) f y ys e = record { one = x; more = xs; here = refl; then = e }

pub guard_gave : {A : Type 0} (b : Bool) (xs : List A) (y : A) (ys : List A) → guard b xs ≡ y ∷ ys → (b ≡ true) × (xs ≡ y ∷ ys)
unfolding guard
guard_gave true xs y ys e = (refl, e)
guard_gave false xs y ys e = none_is_one _ y ys e

pub first_is_first : {A : Type 0} (x y : A) (xs ys : List A) → x ∷ xs ≡ y ∷ ys → x ≡ y
first_is_first x y xs ys e = cc

-- what a cut that went well says
pub record Cuts {B : Type 0} (n : ℕ) (bs : List ℕ) (f : Cut → List B) (ys : List B) : Type 0 where
  pub front : List ℕ
  pub rest : List ℕ
  pub long : length front ≡ n
  pub whole : front ++ rest ≡ bs
  pub then : f (record { front = front; rest = rest }) ≡ ys

pub and_then-cut : {B : Type 0} (n : ℕ) (bs : List ℕ) (f : Cut → List B) (y : B) (ys : List B) → and_then (cut n bs) f ≡ y ∷ ys → Cuts n bs f (y ∷ ys)
unfolding and_then pick
and_then-cut n bs f y ys e = go (leb n (length bs)) refl e
  where
    go : (b : Bool) → leb n (length bs) ≡ b → and_then (pick b (record { front = take n bs; rest = drop n bs } ∷ []) []) f ≡ y ∷ ys → Cuts n bs f (y ∷ ys)
    go true h e = record { front = take n bs; rest = drop n bs; long = length-take n bs (leb-true n (length bs) h); whole = take-drop n bs; then = e }
    go false h e = none_is_one _ y ys e

pub cut_is : (n : ℕ) (bs : List ℕ) (c : Cut) (cs : List Cut) → cut n bs ≡ c ∷ cs → (length c.front ≡ n) × (c.front ++ c.rest ≡ bs)
unfolding pick
cut_is n bs c cs e = go (leb n (length bs)) refl e
  where
    go : (b : Bool) → leb n (length bs) ≡ b → pick b (record { front = take n bs; rest = drop n bs } ∷ []) [] ≡ c ∷ cs → (length c.front ≡ n) × (c.front ++ c.rest ≡ bs)
    go true h e = subst (λ d. (length d.front ≡ n) × (d.front ++ d.rest ≡ bs)) (first_is_first (record { front = take n bs; rest = drop n bs }) c [] cs e) (length-take n bs (leb-true n (length bs) h), take-drop n bs)
    go false h e = none_is_one _ c cs e

pub and_then_put : {B : Type 0} (n : ℕ) (a b : List ℕ) (f : Cut → List B) → length a ≡ n → and_then (cut n (a ++ b)) f ≡ f (record { front = a; rest = b })
unfolding and_then
and_then_put n a b f l = ap (λ xs. and_then xs f) (cut_front n a b l)

pub and_then_one : {A B : Type 0} (xs : List A) (x : A) (f : A → List B) → xs ≡ x ∷ [] → and_then xs f ≡ f x
and_then_one xs x f e = sym (and_then_some x xs f (sym e))
