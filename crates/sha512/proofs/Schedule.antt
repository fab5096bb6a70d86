-- A block's schedule, its rounds, and sums of states: a step of a loop each.
use Rattle.std.proofs.Common.{◌≡◌, ℕ, suc, ◌+◌, ◌-◌, ◌<◌, ◌≤◌, List, [], ◌∷◌, ◌++◌, sym, refl, ap, ◌∙◌, ap₂, arith}
use lib.ListN as L
use Rattle.std.proofs.lemmas.List.{get_or-reverse, length-take-le, get_or-take, take_more_set, take_more, drop_more, drop_all}
use Rattle.octets.specs.Bytes.{nth, reversed}
use Rattle.octets.proofs.Lists.{nth_is, reversed_is, reversed_push}
use Rattle.sha512.specs.Words.{add, small_sigma0, small_sigma1}
use Rattle.sha512.specs.Sha512.{extend_words, round, rounds, add_words}

-- the k-th from the end of the first t
pub nth_back : (xs : List ℕ) (t k m : ℕ) → t ≤ L.length xs → k + m + 1 ≡ t → nth (reversed (L.take t xs)) k ≡ L.get_or xs m 0
nth_back xs t k m h e =
    let n : L.length (L.take t xs) ≡ t = length-take-le t xs h in
    let lt : k < L.length (L.take t xs) = omega arith in
    let at : L.length (L.take t xs) - 1 - k ≡ m = omega arith in
    let below : m < t = omega arith in
    nth_is (reversed (L.take t xs)) k ∙ ap (λ (ys : List ℕ). L.get_or ys k 0) (reversed_is (L.take t xs))
    ∙ get_or-reverse (L.take t xs) k 0 lt ∙ ap (λ (j : ℕ). L.get_or (L.take t xs) j 0) at ∙ get_or-take t xs m 0 below

pub extend_more : (n t : ℕ) (w : List ℕ) {p q : ℕ} → 16 ≤ t → t < L.length w → p ≡ small_sigma1 (L.get_or w (t - 2) 0) → q ≡ small_sigma0 (L.get_or w (t - 15) 0)
    → extend_words (suc n) (reversed (L.take t w))
    ≡ extend_words n (reversed (L.take (t + 1) (L.set w t (add (add p (L.get_or w (t - 7) 0)) (add q (L.get_or w (t - 16) 0))))))
unfolding extend_words
extend_more n t w {p} {q} h l ep eq =
    let le : t ≤ L.length w = omega arith in
    let e1 : nth (reversed (L.take t w)) 1 ≡ L.get_or w (t - 2) 0 = nth_back w t 1 (t - 2) le (omega arith) in
    let e6 : nth (reversed (L.take t w)) 6 ≡ L.get_or w (t - 7) 0 = nth_back w t 6 (t - 7) le (omega arith) in
    let e14 : nth (reversed (L.take t w)) 14 ≡ L.get_or w (t - 15) 0 = nth_back w t 14 (t - 15) le (omega arith) in
    let e15 : nth (reversed (L.take t w)) 15 ≡ L.get_or w (t - 16) 0 = nth_back w t 15 (t - 16) le (omega arith) in
    ap (λ (v : ℕ). extend_words n (v ∷ reversed (L.take t w)))
    (ap₂ (λ (x y : ℕ). add x y)
    (ap₂ (λ (x y : ℕ). add x y) (ap (λ (x : ℕ). small_sigma1 x) e1 ∙ sym ep) e6)
    (ap₂ (λ (x y : ℕ). add x y) (ap (λ (x : ℕ). small_sigma0 x) e14 ∙ sym eq) e15))
    ∙ sym (ap (λ (xs : List ℕ). extend_words n xs)
    (ap reversed (take_more_set w t (add (add p (L.get_or w (t - 7) 0)) (add q (L.get_or w (t - 16) 0))) l)
    ∙ reversed_push (L.take t w) (add (add p (L.get_or w (t - 7) 0)) (add q (L.get_or w (t - 16) 0)))))

pub rounds_more : (s ks ws : List ℕ) (i : ℕ) → i < L.length ks → i < L.length ws
    → rounds s (L.drop i ks) (L.drop i ws) ≡ rounds (round s (L.get_or ks i 0) (L.get_or ws i 0)) (L.drop (i + 1) ks) (L.drop (i + 1) ws)
unfolding rounds
rounds_more s ks ws i hk hw = ap₂ (λ (x y : List ℕ). rounds s x y) (drop_more ks i 0 hk) (drop_more ws i 0 hw)

pub rounds_done : (s ks ws : List ℕ) (i : ℕ) → L.length ks ≤ i → rounds s (L.drop i ks) (L.drop i ws) ≡ s
unfolding rounds
rounds_done s ks ws i h = ap (λ (xs : List ℕ). rounds s xs (L.drop i ws)) (drop_all i ks h)

add_words_push : (xs ys : List ℕ) (x y : ℕ) → L.length xs ≡ L.length ys → add_words (xs ++ (x ∷ [])) (ys ++ (y ∷ [])) ≡ add_words xs ys ++ (add x y ∷ [])
unfolding add_words
add_words_push [] [] x y e = refl
add_words_push [] (b ∷ bs) x y e = absurd (omega arith)
add_words_push (a ∷ as') [] x y e = absurd (omega arith)
add_words_push (a ∷ as') (b ∷ bs) x y e = ap (λ (zs : List ℕ). add a b ∷ zs) (add_words_push as' bs x y (omega arith))

pub add_words_more : (xs ys out : List ℕ) (i : ℕ) → i < L.length xs → i < L.length ys → i < L.length out → L.take i out ≡ add_words (L.take i xs) (L.take i ys)
    → L.take (i + 1) (L.set out i (add (L.get_or xs i 0) (L.get_or ys i 0))) ≡ add_words (L.take (i + 1) xs) (L.take (i + 1) ys)
add_words_more xs ys out i hx hy ho e =
    let l : L.length (L.take i xs) ≡ L.length (L.take i ys) = length-take-le i xs (omega arith) ∙ sym (length-take-le i ys (omega arith)) in
    take_more_set out i _ ho ∙ ap (λ zs. zs ++ (add (L.get_or xs i 0) (L.get_or ys i 0) ∷ [])) e
    ∙ sym (ap₂ add_words (take_more xs i 0 hx) (take_more ys i 0 hy) ∙ add_words_push (L.take i xs) (L.take i ys) (L.get_or xs i 0) (L.get_or ys i 0) l)
