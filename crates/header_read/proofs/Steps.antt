-- Steps of reading that go on or don't: guards and choices whose test is known, and what holds of the first.
use Rattle.std.proofs.Common.{◌≡◌, ℕ, Bool, true, false, ◌&&◌, List, [], ◌∷◌, sym, refl, arith}
use Rattle.octets.specs.Bits.{pick}
use Rattle.octets.specs.Cut.{and_then, guard}
use Rattle.octets.proofs.Bits.{pick_true, pick_false}
use Rattle.octets.proofs.Cuts.{guard_true, guard_false}

pub guard_yes : {A : Type 0} (b : Bool) (xs : List A) → true ≡ b → xs ≡ guard b xs
guard_yes b xs e = sym (guard_true b xs (sym e))

pub guard_no : {A : Type 0} (b : Bool) (xs : List A) → false ≡ b → [] ≡ guard b xs
guard_no b xs e = sym (guard_false b xs (sym e))

pub pick_yes : {A : Type 0} (b : Bool) (x y : A) → true ≡ b → x ≡ pick b x y
pick_yes b x y e = sym (pick_true b x y (sym e))

pub pick_no : {A : Type 0} (b : Bool) (x y : A) → false ≡ b → y ≡ pick b x y
pick_no b x y e = sym (pick_false b x y (sym e))

pub guard_within : {A B : Type 0} (b : Bool) (xs : List A) (f : A → List B) → guard b (and_then xs f) ≡ and_then xs (λ x. guard b (f x))
unfolding and_then guard
guard_within true xs f = refl
guard_within false [] f = refl
guard_within false (x ∷ xs) f = refl

pub guard-guard : {A : Type 0} (b c : Bool) (xs : List A) → guard b (guard c xs) ≡ guard (b && c) xs
unfolding guard
guard-guard true c xs = refl
guard-guard false c xs = refl

-- a guard that gave none, and one that gave one
pub guard_gave_none : {A : Type 0} (b : Bool) (x : A) (xs : List A) → [] ≡ guard b (x ∷ xs) → b ≡ false
unfolding guard
guard_gave_none true x xs e = absurd (let z : ◌≡◌ {A = ℕ} 0 1 = cc in omega arith)
guard_gave_none false x xs e = refl

pub guard_gave_one : {A : Type 0} (b : Bool) (x y : A) → (x ∷ []) ≡ guard b (y ∷ []) → (b ≡ true) × (x ≡ y)
unfolding guard
guard_gave_one true x y e = (refl, cc)
guard_gave_one false x y e = absurd (let z : ◌≡◌ {A = ℕ} 0 1 = cc in omega arith)

-- what holds of the first, if there is one
abbrev pub First : {A : Type 0} (P : A → Type 0) → List A → Type 0
First P [] = Unit {0}
First P (x ∷ xs) = P x

pub first_and_then : {A B : Type 0} (Q : A → Type 0) (P : B → Type 0) (xs : List A) (f : A → List B) → First Q xs → ((x : A) → Q x → First P (f x)) → First P (and_then xs f)
unfolding and_then
first_and_then Q P [] f q h = tt
first_and_then Q P (x ∷ xs) f q h = h x q

pub first_guard : {A : Type 0} (P : A → Type 0) (b : Bool) (xs : List A) → First P xs → First P (guard b xs)
unfolding guard
first_guard P true xs h = h
first_guard P false xs h = tt
