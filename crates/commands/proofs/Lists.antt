-- What lists of no, one or two lent texts say.
use Rattle.std.proofs.Common.{◌≡◌, ℕ, List, [], ◌∷◌, map, length, get_or, refl, arith, Bor}
use Rattle.cli.specs.Line.{now_of}

pub none : (xs : List (Bor (List ℕ))) → length xs ≡ 0 → map now_of xs ≡ []
none [] h = refl
none (x ∷ xs) h = absurd (omega arith)

pub one : (xs : List (Bor (List ℕ))) (d : Bor (List ℕ)) → length xs ≡ 1 → map now_of xs ≡ (get_or xs 0 d).now ∷ []
one [] d h = absurd (omega arith)
one (x ∷ []) d h = refl
one (x ∷ (y ∷ xs)) d h = absurd (omega arith)

pub two : (xs : List (Bor (List ℕ))) (d e : Bor (List ℕ)) → length xs ≡ 2 → map now_of xs ≡ (get_or xs 0 d).now ∷ (get_or xs 1 e).now ∷ []
two [] d e h = absurd (omega arith)
two (x ∷ []) d e h = absurd (omega arith)
two (x ∷ (y ∷ [])) d e h = refl
two (x ∷ (y ∷ (z ∷ xs))) d e h = absurd (omega arith)
