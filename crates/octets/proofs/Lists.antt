-- The list functions of the definitions are the library's, two lists joined can be taken apart, and tables are known at each place.
use Rattle.std.proofs.Common.{◌≡◌, ℕ, zero, suc, ◌+◌, ◌-◌, ◌<◌, ◌≤◌, List, [], ◌∷◌, ◌++◌, reverse, length, sym, refl, ap, ◌∙◌, ap₂, add-zero, zero-add, arith, length-take-le, take_at, drop_at}
use mathlib.Core.List.{reverse-append}
use lib.ListN as L
use Rattle.std.proofs.lemmas.List.{reverse-reverse, drop_more}
use Rattle.octets.specs.Bytes.{take, drop, nth, repeat, reversed}

pub nth_is : (xs : List ℕ) (n : ℕ) → nth xs n ≡ L.get_or xs n 0
unfolding nth
nth_is [] n = refl
nth_is (x ∷ xs) zero = refl
nth_is (x ∷ xs) (suc n) = nth_is xs n

pub take_is : (n : ℕ) (xs : List ℕ) → take n xs ≡ L.take n xs
unfolding take
take_is zero xs = refl
take_is (suc n) [] = refl
take_is (suc n) (x ∷ xs) = ap (λ (ys : List ℕ). x ∷ ys) (take_is n xs)

pub drop_is : (n : ℕ) (xs : List ℕ) → drop n xs ≡ L.drop n xs
unfolding drop
drop_is zero xs = refl
drop_is (suc n) [] = refl
drop_is (suc n) (x ∷ xs) = drop_is n xs

-- what is taken and what is dropped: how long, and that both are the whole
pub length-take : (n : ℕ) (xs : List ℕ) → n ≤ length xs → length (take n xs) ≡ n
length-take n xs h = ap length (take_is n xs) ∙ length-take-le n xs h

pub length-drop : (n : ℕ) (xs : List ℕ) → length (drop n xs) ≡ length xs - n
length-drop n xs = ap length (drop_is n xs) ∙ L.length-drop n xs

pub take-drop : (n : ℕ) (xs : List ℕ) → take n xs ++ drop n xs ≡ xs
take-drop n xs = ap₂ (λ ys zs. ys ++ zs) (take_is n xs) (drop_is n xs) ∙ L.take-append-drop n xs

pub repeat_is : (n a : ℕ) → repeat n a ≡ L.replicate n a
unfolding repeat
repeat_is zero a = refl
repeat_is (suc n) a = ap (λ (ys : List ℕ). a ∷ ys) (repeat_is n a)

pub reversed_is : (xs : List ℕ) → reversed xs ≡ reverse xs
unfolding reversed
reversed_is [] = refl
reversed_is (x ∷ xs) = ap (λ (ys : List ℕ). ys ++ (x ∷ [])) (reversed_is xs) ∙ sym (reverse-append (x ∷ []) xs)

pub reversed_push : (xs : List ℕ) (v : ℕ) → reversed (xs ++ (v ∷ [])) ≡ v ∷ reversed xs
unfolding reversed
reversed_push [] v = refl
reversed_push (x ∷ xs) v = ap (λ (ys : List ℕ). ys ++ (x ∷ [])) (reversed_push xs v)

pub reversed-reversed : (xs : List ℕ) → reversed (reversed xs) ≡ xs
reversed-reversed xs = reversed_is (reversed xs) ∙ ap reverse (reversed_is xs) ∙ reverse-reverse xs

-- n elements from the place i + k on, one by one
unfoldable pub elements : ℕ → ℕ → ℕ → List ℕ → List ℕ
elements zero i k xs = []
elements (suc n) i k xs = L.get_or xs (i + k) 0 ∷ elements n i (suc k) xs

pub elements_are : (n i k : ℕ) (xs : List ℕ) → i + k + n ≤ length xs → L.take n (L.drop (i + k) xs) ≡ elements n i k xs
unfolding elements
elements_are zero i k xs h = refl
elements_are (suc n) i k xs h =
    let l : i + k < length xs = omega arith in
    let m : i + suc k + n ≤ length xs = omega arith in
    let e : i + k + 1 ≡ i + suc k = omega arith in
    ap (λ ys. L.take (suc n) ys) (drop_more xs (i + k) 0 l) ∙ ap (λ ys. L.get_or xs (i + k) 0 ∷ ys) (ap (λ j. L.take n (L.drop j xs)) e ∙ elements_are n i (suc k) xs m)

-- two joined lists whose first parts are as long
pub halves : {A : Type 0} (a b c d : List A) → length a ≡ length b → a ++ c ≡ b ++ d → (a ≡ b) × (c ≡ d)
halves a b c d l e = (
  sym (take_at a c (length a) refl) ∙ (ap (λ xs. L.take (length a) xs) e ∙ take_at b d (length a) (sym l)),
  sym (drop_at a c (length a) refl) ∙ (ap (λ xs. L.drop (length a) xs) e ∙ drop_at b d (length a) (sym l)),
)

-- the table of f at n places from i on, and its entry at each
abbrev pub tabulated : (ℕ → ℕ) → ℕ → ℕ → List ℕ
tabulated f zero i = []
tabulated f (suc n) i = f i ∷ tabulated f n (suc i)

entry_from : (f : ℕ → ℕ) (n i k : ℕ) → k < n → L.get_or (tabulated f n i) k 0 ≡ f (i + k)
entry_from f zero i k h = absurd (omega arith)
entry_from f (suc n) i zero h = ap f (sym (add-zero i))
entry_from f (suc n) i (suc k) h = entry_from f n (suc i) k (omega arith) ∙ ap f (omega arith)

pub table_entry : (f : ℕ → ℕ) (n k : ℕ) → k < n → L.get_or (tabulated f n 0) k 0 ≡ f k
table_entry f n k h = entry_from f n 0 k h ∙ ap f (zero-add k)
