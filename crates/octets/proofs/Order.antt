-- The order of byte strings: of two that differ one comes before the other; and their equality as the library has it.
use Rattle.std.proofs.Common.{◌≡◌, ℕ, ◌≤◌, Bool, true, false, ◌&&◌, eqb, ltb, List, [], ◌∷◌, sym, refl, ap, ⊎_elim, arith}
use lib.Pointwise.{pointwise}
use Rattle.std.specs.Prelude.{nat_eq}
use Rattle.std.proofs.lemmas.Bool.{and_from, ltb-false, lt-ltb, eq-eqb, or_parts, or_left, or_right, cases_eq}
use Rattle.octets.specs.Bytes.{bytes_eq, bytes_lt}

pub bytes_lt_total : (xs ys : List ℕ) → bytes_lt xs ys ≡ false → bytes_eq xs ys ≡ false → bytes_lt ys xs ≡ true
unfolding bytes_lt bytes_eq
bytes_lt_total [] [] p q = sym q
bytes_lt_total [] (y ∷ ys) p q = sym p
bytes_lt_total (x ∷ xs) [] p q = refl
bytes_lt_total (x ∷ xs) (y ∷ ys) p q =
    let a = or_parts (ltb x y) (eqb x y && bytes_lt xs ys) p in
    let b : y ≤ x = ltb-false x y a.0 in
    ⊎_elim
    (λ e.
    let f : eqb x y ≡ true = eq-eqb x y e in
    let g : eqb y x ≡ true = eq-eqb y x (sym e) in
    or_right (ltb y x) (eqb y x && bytes_lt ys xs) (and_from (eqb y x) (bytes_lt ys xs) g (bytes_lt_total xs ys (rest (eqb x y) (bytes_lt xs ys) f a.1) (rest (eqb x y) (bytes_eq xs ys) f q))))
    (λ n. or_left (ltb y x) (eqb y x && bytes_lt ys xs) (lt-ltb y x (omega arith)))
    (cases_eq x y)
  where
    rest : (s t : Bool) → s ≡ true → (s && t) ≡ false → t ≡ false
    rest true t e f = f
    rest false t e f = absurd (let z : ◌≡◌ {A = ℕ} 0 1 = cc in omega arith)

-- the library's comparison of byte strings
pub pointwise_is : (xs ys : List ℕ) → pointwise nat_eq xs ys ≡ bytes_eq xs ys
unfolding bytes_eq
pointwise_is [] [] = refl
pointwise_is [] (y ∷ ys) = refl
pointwise_is (x ∷ xs) [] = refl
pointwise_is (x ∷ xs) (y ∷ ys) = ap (λ b. eqb x y && b) (pointwise_is xs ys)
