-- Byte strings compared byte by byte: by what differs up to a place, and by what is left from a place on.
use Rattle.std.proofs.Common.{◌≡◌, ℕ, suc, ◌+◌, ◌-◌, ◌<◌, ◌≤◌, Bool, true, false, ◌&&◌, ◌||◌, eqb, ltb, ◌⊎◌, List, [], ◌∷◌, ◌++◌, length, get_or, take, drop, sym, refl, ap, ◌∙◌, ap₂, inl, inr, ⊎_elim, arith, length-drop, length-take-le, take_all}
use lib.Bits.{bit_or, bit_xor, or_add_and, xor_add_and, and_le_l, and_le_r, xor_self}
use Rattle.std.proofs.lemmas.List.{take_more, drop_more}
use Rattle.std.proofs.lemmas.Bool.{lt-ltb, le-ltb, eq-eqb, ne_eqb, and_from, and_left, and_right, cases_eq}
use Rattle.std.proofs.lemmas.Bool.Decides.{nat_tests}
use Rattle.octets.specs.Bytes.{bytes_eq, bytes_lt}

-- differences joined by or are zero where all of them are
or_parts_zero : (a b : ℕ) → bit_or a b ≡ 0 → (a ≡ 0) × (b ≡ 0)
or_parts_zero a b e =
    let s = or_add_and a b in
    let l = and_le_l a b in
    let r = and_le_r a b in
    (omega arith, omega arith)

xor_zero : (x y : ℕ) → bit_xor x y ≡ 0 → x ≡ y
xor_zero x y e =
    let s = xor_add_and x y in
    let l = and_le_l x y in
    let r = and_le_r x y in
    omega arith

no_difference : (d x y : ℕ) → eqb (bit_or d (bit_xor x y)) 0 ≡ (eqb d 0 && eqb x y)
no_difference d x y = ⊎_elim none_so_far (λ nd. ne_eqb (bit_or d (bit_xor x y)) 0 (λ e. nd (or_parts_zero d (bit_xor x y) e).0) ∙ sym (and_left (eqb d 0) (eqb x y) (ne_eqb d 0 nd))) (cases_eq d 0)
  where
    none_so_far : d ≡ 0 → eqb (bit_or d (bit_xor x y)) 0 ≡ (eqb d 0 && eqb x y)
    none_so_far ed =
        ⊎_elim
        (λ exy.
        let z : bit_or d (bit_xor x y) ≡ 0 = ap₂ (λ p q. bit_or p (bit_xor q y)) ed exy ∙ xor_self y in
        eq-eqb (bit_or d (bit_xor x y)) 0 z ∙ sym (and_from (eqb d 0) (eqb x y) (eq-eqb d 0 ed) (eq-eqb x y exy)))
        (λ nxy. ne_eqb (bit_or d (bit_xor x y)) 0 (λ e. nxy (xor_zero x y (or_parts_zero d (bit_xor x y) e).1)) ∙ sym (and_right (eqb d 0) (eqb x y) (ne_eqb x y nxy)))
        (cases_eq x y)

and_true : (p : Bool) → (p && true) ≡ p
and_true true = refl
and_true false = refl

and_assoc : (p q r : Bool) → (p && (q && r)) ≡ ((p && q) && r)
and_assoc true q r = refl
and_assoc false q r = refl

eq_push : (xs ys : List ℕ) (x y : ℕ) → length xs ≡ length ys → bytes_eq (xs ++ (x ∷ [])) (ys ++ (y ∷ [])) ≡ (bytes_eq xs ys && eqb x y)
unfolding bytes_eq
eq_push [] [] x y e = and_true (eqb x y)
eq_push [] (b ∷ ys) x y e = absurd (omega arith)
eq_push (a ∷ xs) [] x y e = absurd (omega arith)
eq_push (a ∷ xs) (b ∷ ys) x y e =
    let f : length xs ≡ length ys = omega arith in
    ap (λ p. eqb a b && p) (eq_push xs ys x y f) ∙ and_assoc (eqb a b) (bytes_eq xs ys) (eqb x y)

-- equality of the first i bytes
pub eq_none : (a b : List ℕ) → true ≡ bytes_eq (take 0 a) (take 0 b)
unfolding bytes_eq
eq_none a b = refl

pub eq_more : (a b : List ℕ) (i d : ℕ) → i < length a → i < length b → eqb d 0 ≡ bytes_eq (take i a) (take i b)
    → eqb (bit_or d (bit_xor (get_or a i 0) (get_or b i 0))) 0 ≡ bytes_eq (take (i + 1) a) (take (i + 1) b)
eq_more a b i d ha hb e =
    let la : length (take i a) ≡ i = length-take-le i a (omega arith) in
    let lb : length (take i b) ≡ i = length-take-le i b (omega arith) in
    no_difference d (get_or a i 0) (get_or b i 0) ∙ ap (λ p. p && eqb (get_or a i 0) (get_or b i 0)) e
    ∙ sym (eq_push (take i a) (take i b) (get_or a i 0) (get_or b i 0) (la ∙ sym lb)) ∙ ap₂ (λ p q. bytes_eq p q) (sym (take_more a i 0 ha)) (sym (take_more b i 0 hb))

pub eq_all : (a b : List ℕ) (i : ℕ) → length a ≤ i → length b ≤ i → bytes_eq (take i a) (take i b) ≡ bytes_eq a b
eq_all a b i ha hb = ap₂ (λ p q. bytes_eq p q) (take_all i a ha) (take_all i b hb)

pub eq_lengths : (a b : List ℕ) → (length a ≡ length b → ⊥) → false ≡ bytes_eq a b
unfolding bytes_eq
eq_lengths [] [] h = absurd (h refl)
eq_lengths [] (y ∷ ys) h = refl
eq_lengths (x ∷ xs) [] h = refl
eq_lengths (x ∷ xs) (y ∷ ys) h = sym (and_right (eqb x y) _ (sym (eq_lengths xs ys (λ e. h (ap suc e)))))

-- the order of what is left from the i-th byte on
lt_equal : (x : ℕ) (xs ys : List ℕ) → bytes_lt (x ∷ xs) (x ∷ ys) ≡ bytes_lt xs ys
unfolding bytes_lt
lt_equal x xs ys = simp (le-ltb x x (omega arith), eq-eqb x x refl)

lt_differ : (x y : ℕ) (xs ys : List ℕ) → (x ≡ y → ⊥) → bytes_lt (x ∷ xs) (y ∷ ys) ≡ ltb x y
unfolding bytes_lt
lt_differ x y xs ys n = simp (ne_eqb x y n) (or_false (ltb x y))
  where
    or_false : (b : Bool) → (b || false) ≡ b
    or_false true = refl
    or_false false = refl

pub lt_more : (a b : List ℕ) (i : ℕ) → i < length a → i < length b → get_or a i 0 ≡ get_or b i 0 → bytes_lt (drop (i + 1) a) (drop (i + 1) b) ≡ bytes_lt (drop i a) (drop i b)
lt_more a b i ha hb e = rw (drop_more a i 0 ha, drop_more b i 0 hb, e) (sym (lt_equal _ _ _))

pub lt_here : (a b : List ℕ) (i : ℕ) → i < length a → i < length b → (get_or a i 0 ≡ get_or b i 0 → ⊥) → ltb (get_or a i 0) (get_or b i 0) ≡ bytes_lt (drop i a) (drop i b)
lt_here a b i ha hb n = rw (drop_more a i 0 ha, drop_more b i 0 hb) (sym (lt_differ _ _ _ _ n))

lt_ended : (a b : List ℕ) → (length a ≤ 0) ⊎ (length b ≤ 0) → ltb (length a) (length b) ≡ bytes_lt a b
unfolding bytes_lt
lt_ended [] [] h = refl
lt_ended [] (y ∷ ys) h = lt-ltb _ _ (omega arith)
lt_ended (x ∷ xs) [] h = le-ltb _ _ (omega arith)
lt_ended (x ∷ xs) (y ∷ ys) h = absurd (⊎_elim (λ e. omega arith) (λ e. omega arith) h)

ltb_from : (m n i : ℕ) → i ≤ m → i ≤ n → ltb m n ≡ ltb (m - i) (n - i)
ltb_from m n i h k = grind (arith, nat_tests)

pub lt_end : (a b : List ℕ) (i : ℕ) → i ≤ length a → i ≤ length b → (length a ≤ i) ⊎ (length b ≤ i) → ltb (length a) (length b) ≡ bytes_lt (drop i a) (drop i b)
lt_end a b i ha hb e =
    ltb_from (length a) (length b) i ha hb ∙ ap₂ ltb (sym (length-drop i a)) (sym (length-drop i b))
    ∙ lt_ended (drop i a) (drop i b) (⊎_elim (λ h. inl (omega (arith, length-drop i a))) (λ h. inr (omega (arith, length-drop i b))) e)
