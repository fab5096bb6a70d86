-- A pair in its place: where it goes, and that names in order stay so.
use Rattle.std.proofs.Common.{◌≡◌, ℕ, zero, suc, ◌<◌, ◌≤◌, Bool, true, false, not, cond, ◌&&◌, List, [], ◌∷◌, map, length, get_or, Some, None, Option, eqb, sym, refl, ap, ◌∙◌, arith}
use Rattle.std.proofs.lemmas.Bool.{cond-true, cond-false, and_parts, and_from}
use Rattle.std.proofs.lemmas.Bool.Decides.{nat_tests}
use Rattle.std.proofs.lemmas.Cmp.{same_from_slice_cmp}
use Rattle.std.specs.Cmp.Lexicographic.{slice_cmp}
use Rattle.std.specs.List.{insert, AllWithin, HoldsAt}
use Rattle.std.specs.Option.{option_map, unwrap_or, MatchOption}
use Rattle.std.specs.Ordering.{nat_cmp, is_ge}
use Rattle.std.specs.Str.{bytes_eq as texts_eq}
use Rattle.octets.proofs.Order.{bytes_lt_total}
use Rattle.octets.specs.Bytes.{bytes_lt, bytes_eq}
use Rattle.cli.specs.declared.context.Pair.{Pair}
use Rattle.cli.specs.Context.{NamedValue, pair_of, with_pair, rising}

-- the definitions' tests of two names, by the library's
at_least : (xs ys : List ℕ) → is_ge (slice_cmp nat_cmp xs ys) ≡ not (bytes_lt xs ys)
unfolding bytes_lt
at_least xs ys = same_from_slice_cmp nat_cmp is_ge (λ xs ys. not (bytes_lt xs ys)) refl (λ _ _. refl) (λ _ _. refl) (λ x y xs ys o h. grind (arith, nat_tests)) xs ys (slice_cmp nat_cmp xs ys) refl

pub not_below : (xs ys : List ℕ) → is_ge (slice_cmp nat_cmp xs ys) ≡ true → bytes_lt xs ys ≡ false
not_below xs ys e = let h = at_least xs ys in grind (arith, h, e)

pub below : (xs ys : List ℕ) → is_ge (slice_cmp nat_cmp xs ys) ≡ false → bytes_lt xs ys ≡ true
below xs ys e = let h = at_least xs ys in grind (arith, h, e)

same_name : (xs ys : List ℕ) → texts_eq xs ys ≡ bytes_eq xs ys
unfolding bytes_eq
same_name [] [] = refl
same_name [] (y ∷ ys) = refl
same_name (x ∷ xs) [] = refl
same_name (x ∷ xs) (y ∷ ys) = ap (λ b. eqb x y && b) (same_name xs ys)

-- the test of the name at a place, by the library's of the pair that was read there
pub named : (qs : List Pair) (i : ℕ) (q : Pair) (n : List ℕ) (b : Bool) → q ≡ get_or qs i q → b ≡ texts_eq q.name.now n → bytes_eq (get_or qs i q).name.now n ≡ b
named qs i q n b e f = ap (λ (r : Pair). bytes_eq r.name.now n) (sym e) ∙ sym (same_name q.name.now n) ∙ sym f

-- where a pair goes: before the first whose name isn't below its own, or at the end
abbrev pub IsPlace : List ℕ → List Pair → ℕ → Type 0
IsPlace n qs i = (i ≤ length qs) × AllWithin (λ q. bytes_lt q.name.now n ≡ true) qs 0 i × (i < length qs → HoldsAt (λ q. bytes_lt q.name.now n ≡ false) qs i)

pub first_or_end : (n : List ℕ) (qs : List Pair) (r : Option ℕ)
    → MatchOption r (AllWithin (λ q. bytes_lt q.name.now n ≡ true) qs 0 (length qs)) (λ i. (i < length qs) × HoldsAt (λ q. bytes_lt q.name.now n ≡ false) qs i × AllWithin (λ q. bytes_lt q.name.now n ≡ true) qs 0 i)
    → IsPlace n qs (unwrap_or r (length qs))
first_or_end n qs None h = (omega arith, h, λ l. absurd (omega (arith, l)))
first_or_end n qs (Some i) h = let l = h.0 in (omega (arith, l), h.2, λ _. h.1)

-- a name that stands at its place is refused
pub named_twice : (p : Pair) (qs : List Pair) (i : ℕ) (d : Pair) → IsPlace p.name.now qs i → i < length qs → bytes_eq (get_or qs i d).name.now p.name.now ≡ true → with_pair (pair_of p) (map pair_of qs) ≡ None
unfolding with_pair
named_twice p [] i d h l e = absurd (omega arith)
named_twice p (q ∷ qs) zero d h l e = cond-false _ _ _ (h.2 l q) ∙ cond-true _ _ _ e
named_twice p (q ∷ qs) (suc i) d h l e =
    cond-true _ _ _ (h.1 0 q (omega arith) (omega arith))
    ∙ ap (option_map (λ rs. pair_of q ∷ rs)) (named_twice p qs i d (omega arith, (λ k d a b. h.1 (suc k) d (omega arith) (omega arith)), (λ m. h.2 (omega arith))) (omega arith) e)

-- otherwise the pair goes there
pub put_there : (p : Pair) (qs : List Pair) (i : ℕ) (d : Pair) → IsPlace p.name.now qs i → (i < length qs → bytes_eq (get_or qs i d).name.now p.name.now ≡ false) → with_pair (pair_of p) (map pair_of qs) ≡ Some (map pair_of (insert qs i p))
unfolding with_pair
put_there p [] zero d h e = refl
put_there p [] (suc i) d h e = let l = h.0 in absurd (omega (arith, l))
put_there p (q ∷ qs) zero d h e = cond-false _ _ _ (h.2 (omega arith) q) ∙ cond-false _ _ _ (e (omega arith))
put_there p (q ∷ qs) (suc i) d h e =
    let l = h.0 in
    cond-true _ _ _ (h.1 0 q (omega arith) (omega arith))
    ∙ ap (option_map (λ rs. pair_of q ∷ rs)) (put_there p qs i d (omega (arith, l), (λ k d a b. h.1 (suc k) d (omega arith) (omega arith)), (λ m. h.2 (omega (arith, m)))) (λ m. e (omega (arith, m))))

-- names above n
unfoldable above : List ℕ → List NamedValue → Bool
above n [] = true
above n (p ∷ ps) = bytes_lt n p.name

rising_cons : (p : NamedValue) (ps : List NamedValue) → rising (p ∷ ps) ≡ (above p.name ps && rising ps)
unfolding rising above
rising_cons p [] = refl
rising_cons p (q ∷ qs) = refl

rising_one : (p : NamedValue) → rising (p ∷ []) ≡ true
unfolding rising
rising_one p = refl

above_one : (n : List ℕ) (q : NamedValue) (qs : List NamedValue) → above n (q ∷ qs) ≡ bytes_lt n q.name
unfolding above
above_one n q qs = refl

longer_back : (q : NamedValue) (o : Option (List NamedValue)) (rs : List NamedValue) → option_map (λ ss. q ∷ ss) o ≡ Some rs → (ss : List NamedValue) × (o ≡ Some ss) × (rs ≡ q ∷ ss)
longer_back q None rs e = absurd (let z : ◌≡◌ {A = ℕ} 0 1 = cc in omega arith)
longer_back q (Some ss) rs e = (ss, refl, (cc))

above_with : (n : List ℕ) (p : NamedValue) (qs rs : List NamedValue) → above n qs ≡ true → bytes_lt n p.name ≡ true → with_pair p qs ≡ Some rs → above n rs ≡ true
unfolding above with_pair
above_with n p [] rs a h e = let f : rs ≡ p ∷ [] = cc in ap (above n) f ∙ h
above_with n p (q ∷ qs) rs a h e = go (bytes_lt q.name p.name) (bytes_eq q.name p.name) e
  where
    go : (b c : Bool) → cond b (option_map (λ ss. q ∷ ss) (with_pair p qs)) (cond c None (Some (p ∷ (q ∷ qs)))) ≡ Some rs → above n rs ≡ true
    go true c f = let g = longer_back q (with_pair p qs) rs f in ap (above n) g.2 ∙ a
    go false true f = absurd (let z : ◌≡◌ {A = ℕ} 0 1 = cc in omega arith)
    go false false f = let g : rs ≡ p ∷ (q ∷ qs) = cc in ap (above n) g ∙ h

pub rising_with : (p : NamedValue) (qs rs : List NamedValue) → with_pair p qs ≡ Some rs → rising qs ≡ true → rising rs ≡ true
unfolding with_pair
rising_with p [] rs e r = let f : rs ≡ p ∷ [] = cc in ap rising f ∙ rising_one p
rising_with p (q ∷ qs) rs e r = go (rising_with p qs) (bytes_lt q.name p.name) (bytes_eq q.name p.name) refl refl e
  where
    go : ((ss : List NamedValue) → with_pair p qs ≡ Some ss → rising qs ≡ true → rising ss ≡ true) → (b c : Bool) → bytes_lt q.name p.name ≡ b → bytes_eq q.name p.name ≡ c
        → cond b (option_map (λ ss. q ∷ ss) (with_pair p qs)) (cond c None (Some (p ∷ (q ∷ qs)))) ≡ Some rs → rising rs ≡ true
    go ih true c lt eq f =
        let g = longer_back q (with_pair p qs) rs f in
        let a = and_parts (above q.name qs) (rising qs) (sym (rising_cons q qs) ∙ r) in
        ap rising g.2 ∙ rising_cons q g.0 ∙ and_from (above q.name g.0) (rising g.0) (above_with q.name p qs g.0 a.0 lt g.1) (ih g.0 g.1 a.1)
    go ih false true lt eq f = absurd (let z : ◌≡◌ {A = ℕ} 0 1 = cc in omega arith)
    go ih false false lt eq f =
        let g : rs ≡ p ∷ (q ∷ qs) = cc in
        ap rising g ∙ rising_cons p (q ∷ qs) ∙ and_from (above p.name (q ∷ qs)) (rising (q ∷ qs)) (above_one p.name q qs ∙ bytes_lt_total q.name p.name lt eq) r
