-- Byte strings compared, and numbers in bytes: how long, that they are bytes, and that each comes back from the other.
use Rattle.std.proofs.Common.{◌≡◌, ℕ, zero, suc, ◌+◌, ◌*◌, ◌/◌, ◌%◌, ◌^◌, ◌<◌, ◌≤◌, true, eqb, ltb, List, [], ◌∷◌, ◌++◌, length, get_or, sym, refl, ap, ◌∙◌, ap₂, append_assoc, append-nil, mul-le-mul_right, mod-lt, zero-lt-suc, mul_assoc, suc-mul, mul_comm, add-mul, pow-suc, arith, length-append, drop-cons}
use native.Mathlib.Nat.{one-le-pow, div-div-eq-div-mul}
use lib.Arith.{mod-mul}
use lib.ListN as L
use Rattle.std.proofs.lemmas.Bool.{and_parts, and_from, ltb-true, lt-ltb, eqb-true, eq-eqb}
use Rattle.octets.specs.Bytes.{bytes_eq, take, drop, to_bytes, number, of_bytes, all_bytes}

pub bytes_eq_true : (xs ys : List ℕ) → bytes_eq xs ys ≡ true → xs ≡ ys
unfolding bytes_eq
bytes_eq_true [] [] e = refl
bytes_eq_true [] (y ∷ ys) e = cc
bytes_eq_true (x ∷ xs) [] e = cc
bytes_eq_true (x ∷ xs) (y ∷ ys) e =
    let p = and_parts (eqb x y) (bytes_eq xs ys) e in
    ap₂ (λ z zs. z ∷ zs) (eqb-true x y p.0) (bytes_eq_true xs ys p.1)

pub bytes_eq_refl : (xs : List ℕ) → bytes_eq xs xs ≡ true
unfolding bytes_eq
bytes_eq_refl [] = refl
bytes_eq_refl (x ∷ xs) = and_from (eqb x x) (bytes_eq xs xs) (eq-eqb x x refl) (bytes_eq_refl xs)

-- all bytes, in parts
pub all_bytes-append : (xs ys : List ℕ) → all_bytes xs ≡ true → all_bytes ys ≡ true → all_bytes (xs ++ ys) ≡ true
unfolding all_bytes
all_bytes-append [] ys p q = q
all_bytes-append (x ∷ xs) ys p q =
    let a = and_parts (ltb x 256) (all_bytes xs) p in
    and_from (ltb x 256) (all_bytes (xs ++ ys)) a.0 (all_bytes-append xs ys a.1 q)

pub all_bytes_parts : (xs ys : List ℕ) → all_bytes (xs ++ ys) ≡ true → (all_bytes xs ≡ true) × (all_bytes ys ≡ true)
unfolding all_bytes
all_bytes_parts [] ys p = (refl, p)
all_bytes_parts (x ∷ xs) ys p =
    let a = and_parts (ltb x 256) (all_bytes (xs ++ ys)) p in
    let b = all_bytes_parts xs ys a.1 in
    (and_from (ltb x 256) (all_bytes xs) a.0 b.0, b.1)

pub all_bytes-take : (n : ℕ) (xs : List ℕ) → all_bytes xs ≡ true → all_bytes (take n xs) ≡ true
unfolding all_bytes take
all_bytes-take zero xs b = refl
all_bytes-take (suc n) [] b = refl
all_bytes-take (suc n) (x ∷ xs) b = let p = and_parts (ltb x 256) (all_bytes xs) b in and_from (ltb x 256) (all_bytes (take n xs)) p.0 (all_bytes-take n xs p.1)

pub all_bytes-drop : (n : ℕ) (xs : List ℕ) → all_bytes xs ≡ true → all_bytes (drop n xs) ≡ true
unfolding all_bytes drop
all_bytes-drop zero xs b = b
all_bytes-drop (suc n) [] b = refl
all_bytes-drop (suc n) (x ∷ xs) b = let p = and_parts (ltb x 256) (all_bytes xs) b in all_bytes-drop n xs p.1

-- a number from bytes in two parts
pub number_append : (a : ℕ) (xs ys : List ℕ) → number a (xs ++ ys) ≡ number (number a xs) ys
unfolding number
number_append a [] ys = refl
number_append a (x ∷ xs) ys = number_append (a * 256 + x) xs ys

pub number_shift : (a : ℕ) (ys : List ℕ) → number a ys ≡ a * 256 ^ length ys + number 0 ys
unfolding number
number_shift a [] = omega arith
number_shift a (y ∷ ys) =
    let p : ℕ = 256 ^ length ys in
    let e : (a * 256 + y) * p ≡ a * 256 * p + y * p = add-mul (a * 256) y p in
    let f : a * 256 * p ≡ a * (p * 256) = mul_assoc a 256 p ∙ ap (λ k. a * k) (mul_comm 256 p) in
    let g : a * (p * 256) ≡ a * 256 ^ suc (length ys) = ap (λ k. a * k) (sym (pow-suc 256 (length ys))) in
    let u = number_shift (a * 256 + y) ys in
    let v : number (0 * 256 + y) ys ≡ (0 * 256 + y) * p + number 0 ys = number_shift (0 * 256 + y) ys in
    let w : (0 * 256 + y) * p ≡ y * p = ap (λ k. k * p) (omega arith) in
    omega arith

-- a number written has so many bytes, and comes back
pub length-to_bytes : (k n : ℕ) → length (to_bytes k n) ≡ k
unfolding to_bytes
length-to_bytes zero n = refl
length-to_bytes (suc k) n = let h = length-to_bytes k (n / 256) in length-append (to_bytes k (n / 256)) (n % 256 ∷ []) ∙ omega arith

-- only the low k bytes of a number are written
pub to_bytes_mod : (k n : ℕ) → to_bytes k (n % 256 ^ k) ≡ to_bytes k n
unfolding to_bytes
to_bytes_mod zero n = refl
to_bytes_mod (suc k) n =
    let p : 0 < 256 ^ k = one-le-pow k 256 (zero-lt-suc 255) in
    let e : n % 256 ^ suc k ≡ (n / 256 % 256 ^ k) * 256 + n % 256 = ap (λ m. n % m) (pow-suc 256 k) ∙ mod-mul n p (zero-lt-suc 255) in
    let d : (n % 256 ^ suc k) / 256 ≡ n / 256 % 256 ^ k = omega arith in
    let m : (n % 256 ^ suc k) % 256 ≡ n % 256 = omega arith in
    ap₂ (λ q r. to_bytes k q ++ (r ∷ [])) d m ∙ ap (λ bs. bs ++ (n % 256 ∷ [])) (to_bytes_mod k (n / 256))

-- the high bytes first, then the low ones
pub to_bytes_parts : (m n x : ℕ) → to_bytes (m + n) x ≡ to_bytes m (x / 256 ^ n) ++ to_bytes n x
unfolding to_bytes
to_bytes_parts m zero x = let e : m + 0 ≡ m = omega arith in let d : x ≡ x / 1 = omega arith in ap₂ to_bytes e d ∙ sym (append-nil (to_bytes m (x / 1)))
to_bytes_parts m (suc n) x =
    let e : m + suc n ≡ suc (m + n) = omega arith in
    let d : x / 256 / 256 ^ n ≡ x / 256 ^ suc n = div-div-eq-div-mul x 256 (256 ^ n) ∙ ap (λ k. x / k) (mul_comm 256 (256 ^ n) ∙ sym (pow-suc 256 n)) in
    ap (λ k. to_bytes k x) e
    ∙ (ap (λ ys. ys ++ (x % 256 ∷ [])) (to_bytes_parts m n (x / 256))
    ∙ (append_assoc (to_bytes m (x / 256 / 256 ^ n)) (to_bytes n (x / 256)) (x % 256 ∷ []) ∙ ap (λ p. to_bytes m p ++ to_bytes (suc n) x) d))

-- the bytes of a word one by one, as the code's `to_be_bytes` gives them
pub to_bytes_2 : (w : ℕ) → to_bytes 2 w ≡ (w / 256 % 256) ∷ (w % 256) ∷ []
unfolding to_bytes
to_bytes_2 w = refl

pub to_bytes_4 : (w : ℕ) → to_bytes 4 w ≡ (w / 16777216 % 256) ∷ (w / 65536 % 256) ∷ (w / 256 % 256) ∷ (w % 256) ∷ []
unfolding to_bytes
to_bytes_4 w = simp div-div-eq-div-mul

pub to_bytes_8 : (w : ℕ) → to_bytes 8 w ≡ (w / 72057594037927936 % 256) ∷ (w / 281474976710656 % 256) ∷ (w / 1099511627776 % 256) ∷ (w / 4294967296 % 256) ∷ (w / 16777216 % 256) ∷ (w / 65536 % 256) ∷ (w / 256 % 256) ∷ (w % 256) ∷ []
unfolding to_bytes
to_bytes_8 w = simp div-div-eq-div-mul

pub to_bytes_16 : (w : ℕ) → to_bytes 16 w ≡ (w / 1329227995784915872903807060280344576 % 256) ∷ (w / 5192296858534827628530496329220096 % 256) ∷ (w / 20282409603651670423947251286016 % 256) ∷ (w / 79228162514264337593543950336 % 256) ∷ (w / 309485009821345068724781056 % 256) ∷ (w / 1208925819614629174706176 % 256) ∷ (w / 4722366482869645213696 % 256) ∷ (w / 18446744073709551616 % 256) ∷ (w / 72057594037927936 % 256) ∷ (w / 281474976710656 % 256) ∷ (w / 1099511627776 % 256) ∷ (w / 4294967296 % 256) ∷ (w / 16777216 % 256) ∷ (w / 65536 % 256) ∷ (w / 256 % 256) ∷ (w % 256) ∷ []
unfolding to_bytes
to_bytes_16 w = simp div-div-eq-div-mul

pub all_bytes_to : (k n : ℕ) → all_bytes (to_bytes k n) ≡ true
unfolding to_bytes all_bytes
all_bytes_to zero n = refl
all_bytes_to (suc k) n =
    all_bytes-append (to_bytes k (n / 256)) (n % 256 ∷ []) (all_bytes_to k (n / 256)) (and_from (ltb (n % 256) 256) true (lt-ltb (n % 256) 256 (omega arith)) refl)

pub of_to_bytes : (k n : ℕ) → n < 256 ^ k → of_bytes (to_bytes k n) ≡ n
unfolding to_bytes number
of_to_bytes zero n h = omega arith
of_to_bytes (suc k) n h =
    let l : n / 256 < 256 ^ k = omega (arith, pow-suc 256 k) in
    let e : number 0 (to_bytes k (n / 256)) ≡ n / 256 = of_to_bytes k (n / 256) l in
    number_append 0 (to_bytes k (n / 256)) (n % 256 ∷ []) ∙ omega arith

pub of_to_bytes_mod : (k n : ℕ) → of_bytes (to_bytes k n) ≡ n % 256 ^ k
of_to_bytes_mod k n = ap (λ bs. of_bytes bs) (sym (to_bytes_mod k n)) ∙ of_to_bytes k (n % 256 ^ k) (mod-lt n (one-le-pow k 256 (zero-lt-suc 255)))

pub to_bytes_injective : (k a b : ℕ) → a < 256 ^ k → b < 256 ^ k → to_bytes k a ≡ to_bytes k b → a ≡ b
to_bytes_injective k a b ha hb e = sym (of_to_bytes k a ha) ∙ (ap (λ xs. number 0 xs) e ∙ of_to_bytes k b hb)

number_injective : (a b : ℕ) (xs ys : List ℕ) → length xs ≡ length ys → all_bytes xs ≡ true → all_bytes ys ≡ true → number a xs ≡ number b ys → (a ≡ b) × (xs ≡ ys)
unfolding number all_bytes
number_injective a b [] [] l p q e = (e, refl)
number_injective a b [] (y ∷ ys) l p q e = absurd (omega arith)
number_injective a b (x ∷ xs) [] l p q e = absurd (omega arith)
number_injective a b (x ∷ xs) (y ∷ ys) l p q e =
    let u = and_parts (ltb x 256) (all_bytes xs) p in
    let v = and_parts (ltb y 256) (all_bytes ys) q in
    let hx = ltb-true x 256 u.0 in
    let hy = ltb-true y 256 v.0 in
    let r = number_injective (a * 256 + x) (b * 256 + y) xs ys (omega arith) u.1 v.1 e in
    let s : a * 256 + x ≡ b * 256 + y = r.0 in
    let t : x ≡ y = omega arith in
    (omega arith, ap₂ (λ z zs. z ∷ zs) t r.1)

pub of_bytes_below : (bs : List ℕ) → all_bytes bs ≡ true → of_bytes bs < 256 ^ length bs
unfolding number all_bytes
of_bytes_below [] p = omega arith
of_bytes_below (x ∷ xs) p =
    let u = and_parts (ltb x 256) (all_bytes xs) p in
    let hx : suc x ≤ 256 = ltb-true x 256 u.0 in
    let q : ℕ = 256 ^ length xs in
    let i : number 0 xs < q = of_bytes_below xs u.1 in
    let z : 0 * 256 + x ≡ x = omega arith in
    let e : number (0 * 256 + x) xs ≡ x * q + number 0 xs = ap (λ y. number y xs) z ∙ number_shift x xs in
    let m : suc x * q ≤ 256 * q = mul-le-mul_right q hx in
    let s : suc x * q ≡ x * q + q = suc-mul x q in
    let w : 256 ^ suc (length xs) ≡ q * 256 = pow-suc 256 (length xs) in
    omega arith

pub to_of_bytes : (k : ℕ) (bs : List ℕ) → length bs ≡ k → all_bytes bs ≡ true → to_bytes k (of_bytes bs) ≡ bs
to_of_bytes k bs l p =
    let h : of_bytes bs < 256 ^ k = rw (← l) (of_bytes_below bs p) in
    (number_injective 0 0 (to_bytes k (of_bytes bs)) bs (length-to_bytes k (of_bytes bs) ∙ sym l) (all_bytes_to k (of_bytes bs)) p (of_to_bytes k (of_bytes bs) h)).1

-- the bytes that stand from a place on, one by one
unfoldable read_from : ℕ → ℕ → List ℕ → List ℕ
read_from i zero bs = []
read_from i (suc n) bs = get_or bs i 0 ∷ read_from (suc i) n bs

read_from_is : (i n : ℕ) (bs : List ℕ) → i + n ≤ length bs → read_from i n bs ≡ L.take n (L.drop i bs)
unfolding read_from
read_from_is i zero bs h = refl
read_from_is i (suc n) bs h =
    ap (λ xs. get_or bs i 0 ∷ xs) (read_from_is (suc i) n bs (omega arith)) ∙ ap (λ xs. L.take (suc n) xs) (sym (drop-cons bs i 0 (omega arith)))

first_2 : (bs : List ℕ) → 2 ≤ length bs → get_or bs 0 0 ∷ (get_or bs 1 0 ∷ []) ≡ L.take 2 bs
unfolding read_from
first_2 bs h = read_from_is 0 2 bs h

first_4 : (bs : List ℕ) → 4 ≤ length bs → get_or bs 0 0 ∷ (get_or bs 1 0 ∷ (get_or bs 2 0 ∷ (get_or bs 3 0 ∷ []))) ≡ L.take 4 bs
unfolding read_from
first_4 bs h = read_from_is 0 4 bs h

first_8 : (bs : List ℕ) → 8 ≤ length bs
    → get_or bs 0 0 ∷ (get_or bs 1 0 ∷ (get_or bs 2 0 ∷ (get_or bs 3 0 ∷ (get_or bs 4 0 ∷ (get_or bs 5 0 ∷ (get_or bs 6 0 ∷ (get_or bs 7 0 ∷ []))))))) ≡ L.take 8 bs
unfolding read_from
first_8 bs h = read_from_is 0 8 bs h

-- the number in the first so many bytes, as a sum
sum_2 : (a b : ℕ) → a * 256 + b ≡ of_bytes (a ∷ (b ∷ []))
unfolding number
sum_2 a b = omega arith

sum_4 : (a b c d : ℕ) → a * 16777216 + b * 65536 + c * 256 + d ≡ of_bytes (a ∷ (b ∷ (c ∷ (d ∷ []))))
unfolding number
sum_4 a b c d = omega arith

sum_8 : (a b c d e f g h : ℕ) → a * 72057594037927936 + b * 281474976710656 + c * 1099511627776 + d * 4294967296 + e * 16777216 + f * 65536 + g * 256 + h ≡ of_bytes (a ∷ (b ∷ (c ∷ (d ∷ (e ∷ (f ∷ (g ∷ (h ∷ []))))))))
unfolding number
sum_8 a b c d e f g h = omega arith

pub of_first_2 : (bs : List ℕ) → 2 ≤ length bs → get_or bs 0 0 * 256 + get_or bs 1 0 ≡ of_bytes (L.take 2 bs)
of_first_2 bs h = sum_2 _ _ ∙ ap (λ xs. number 0 xs) (first_2 bs h)

pub of_first_4 : (bs : List ℕ) → 4 ≤ length bs → get_or bs 0 0 * 16777216 + get_or bs 1 0 * 65536 + get_or bs 2 0 * 256 + get_or bs 3 0 ≡ of_bytes (L.take 4 bs)
of_first_4 bs h = sum_4 _ _ _ _ ∙ ap (λ xs. number 0 xs) (first_4 bs h)

pub of_first_8 : (bs : List ℕ) → 8 ≤ length bs
    → get_or bs 0 0 * 72057594037927936 + get_or bs 1 0 * 281474976710656 + get_or bs 2 0 * 1099511627776 + get_or bs 3 0 * 4294967296 + get_or bs 4 0 * 16777216 + get_or bs 5 0 * 65536 + get_or bs 6 0 * 256 + get_or bs 7 0 ≡ of_bytes (L.take 8 bs)
of_first_8 bs h = sum_8 _ _ _ _ _ _ _ _ ∙ ap (λ xs. number 0 xs) (first_8 bs h)
