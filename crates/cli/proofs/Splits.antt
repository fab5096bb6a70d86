-- A text that is x, the byte c and y, where c doesn't stand in x (or in y), is split there.
use Rattle.std.proofs.Common.{◌≡◌, ℕ, suc, ◌+◌, ◌<◌, ◌≤◌, false, eqb, List, [], ◌∷◌, ◌++◌, length, get_or, take, drop, Some, None, Option, sym, refl, ap, ◌∙◌, arith, take-append-drop, Bor, MatchOption}
use Rattle.std.proofs.lemmas.Str.Pattern.{IsSplitOnceResult, split_parts, NoCharPasses-char, drop_at_char}
use Rattle.std.proofs.lemmas.Bool.{eq-eqb, ne_eqb}
use Rattle.std.specs.Str.Pattern.{RFindsChar}
use Rattle.std.specs.Option.{option_map}
use Rattle.cli.specs.Split.{split_first, split_last, parts}

-- c doesn't stand in xs
abbrev pub Lacks : ℕ → List ℕ → Type 0
Lacks c xs = (i : ℕ) → i < length xs → get_or xs i 0 ≡ c → ⊥

lacks_tail : (c x : ℕ) (xs : List ℕ) → Lacks c (x ∷ xs) → Lacks c xs
lacks_tail c x xs h i lt e = h (suc i) (omega arith) e

lacks_head : (c x : ℕ) (xs : List ℕ) → Lacks c (x ∷ xs) → eqb x c ≡ false
lacks_head c x xs h = ne_eqb x c (λ e. h 0 (omega arith) e)

first_none : (c : ℕ) (xs : List ℕ) → Lacks c xs → None ≡ split_first c xs
unfolding split_first
first_none c [] h = refl
first_none c (x ∷ xs) h = rw (lacks_head c x xs h, ← first_none c xs (lacks_tail c x xs h)) refl

first_some : (c : ℕ) (xs ys : List ℕ) → Lacks c xs → Some (record { before = xs; after = ys }) ≡ split_first c (xs ++ (c ∷ ys))
unfolding split_first
first_some c [] ys h = rw (eq-eqb c c refl) refl
first_some c (x ∷ xs) ys h = rw (lacks_head c x xs h, ← first_some c xs ys (lacks_tail c x xs h)) refl

last_none : (c : ℕ) (xs : List ℕ) → Lacks c xs → None ≡ split_last c xs
unfolding split_last
last_none c [] h = refl
last_none c (x ∷ xs) h = rw (← last_none c xs (lacks_tail c x xs h), lacks_head c x xs h) refl

last_some : (c : ℕ) (xs ys : List ℕ) → Lacks c ys → Some (record { before = xs; after = ys }) ≡ split_last c (xs ++ (c ∷ ys))
unfolding split_last
last_some c [] ys h = rw (← last_none c ys h, eq-eqb c c refl) refl
last_some c (x ∷ xs) ys h = rw (← last_some c xs ys h) refl

-- what `split_once` gives
pub splits_first : (c : ℕ) (bs : List ℕ) (r : Option (Bor (List ℕ) × Bor (List ℕ))) → c < 128 → IsSplitOnceResult c bs r → option_map parts r ≡ split_first c bs
splits_first c bs None small h = first_none c bs (split_parts c bs None h small)
splits_first c bs (Some p) small h =
    let q = split_parts c bs (Some p) h small in
    first_some c p.0.now p.1.now q.1 ∙ ap (λ xs. split_first c xs) (sym q.0)

-- what `rsplit_once` gives
abbrev pub SplitLast : ℕ → List ℕ → Option (Bor (List ℕ) × Bor (List ℕ)) → Type 0
SplitLast c bs r = MatchOption r (RFindsChar c bs None) (λ x. (i : ℕ) × (j : ℕ) × RFindsChar c bs (Some (i, j)) × (x.0.now ≡ take i bs) × (x.1.now ≡ drop j bs) × (i ≤ j) × (length x.0.now ≡ i) × (length x.1.now + j ≡ length bs))

pub splits_last : (c : ℕ) (bs : List ℕ) (r : Option (Bor (List ℕ) × Bor (List ℕ))) → c < 128 → SplitLast c bs r → option_map parts r ≡ split_last c bs
splits_last c bs None small h = last_none c bs (λ i. NoCharPasses-char c bs i h small)
splits_last c bs (Some p) small h =
    let i : ℕ = h.0 in
    let j : ℕ = h.1 in
    let f = h.2 in
    let x : p.0.now ≡ take i bs = h.3 in
    let y : p.1.now ≡ drop j bs = h.4 in
    let whole : bs ≡ take i bs ++ (c ∷ drop j bs) = sym (take-append-drop i bs) ∙ ap (λ ys. take i bs ++ ys) (drop_at_char c bs i j f.1 small) in
    let after : Lacks c (drop j bs) = λ k. NoCharPasses-char c (drop j bs) k f.0 small in
    ap Some (λ t. record { before = x t; after = y t }) ∙ last_some c (take i bs) (drop j bs) after ∙ ap (λ zs. split_last c zs) (sym whole)
