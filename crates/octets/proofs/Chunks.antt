-- Bytes cut into chunks of one length, words read from them, and loops that write one word for each.
use Rattle.std.proofs.Common.{◌≡◌, ℕ, zero, suc, ◌+◌, ◌*◌, ◌/◌, ◌<◌, ◌≤◌, List, [], ◌∷◌, ◌++◌, length, get_or, take, drop, set, map, sym, ap, ◌∙◌, ap₂, take_all, arith, length-take-le, length-drop, drop-drop, mul_comm, suc-mul}
use Rattle.std.proofs.Math.Nat.{div-mul-le_self}
use Rattle.std.proofs.lemmas.List.{take_more_set, map_more}
use Rattle.std.specs.Simd.{first_chunks}
use Rattle.octets.specs.Bytes.{of_bytes}
use Rattle.octets.proofs.Numbers.{of_first_8}

-- the i-th of k chunks, and that one within the bytes is whole
pub chunk_at : {A : Type 0} (n k i : ℕ) (xs : List A) (d : List A) → i < k → get_or (first_chunks n k xs) i d ≡ take n (drop (n * i) xs)
chunk_at n zero i xs d h = absurd (omega arith)
chunk_at n (suc k) zero xs d h = let e : n * 0 ≡ 0 = omega arith in ap (λ (j : ℕ). take n (drop j xs)) (sym e)
chunk_at n (suc k) (suc i) xs d h =
    let e : n + n * i ≡ n * suc i = omega (arith, mul_comm n i, mul_comm n (suc i), suc-mul i n) in
    chunk_at n k i (drop n xs) d (omega arith) ∙ ap (take n) (drop-drop (n * i) n xs ∙ ap (λ (j : ℕ). drop j xs) e)

length-first_chunks : (n k i : ℕ) (xs : List ℕ) → k * n ≤ length xs → i < k → length (get_or (first_chunks n k xs) i []) ≡ n
length-first_chunks n zero i xs h l = omega arith
length-first_chunks n (suc k) zero xs h l = length-take-le n xs (omega arith)
length-first_chunks n (suc k) (suc i) xs h l = length-first_chunks n k i (drop n xs) (omega (arith, length-drop n xs)) (omega arith)

pub length-chunk : (n i : ℕ) (bs : List ℕ) (chunks : List (List ℕ)) → chunks ≡ first_chunks n (length bs / n) bs → i < length bs / n → length (get_or chunks i []) ≡ n
length-chunk n i bs chunks e h = ap (λ xs. length (get_or xs i [])) e ∙ length-first_chunks n (length bs / n) i bs (div-mul-le_self (length bs) n) h

-- a word of eight bytes, as the code's `from_be_bytes` reads it
pub of_8 : (bs : List ℕ) → length bs ≡ 8
    → get_or bs 0 0 * 72057594037927936 + get_or bs 1 0 * 281474976710656 + get_or bs 2 0 * 1099511627776 + get_or bs 3 0 * 4294967296 + get_or bs 4 0 * 16777216 + get_or bs 5 0 * 65536 + get_or bs 6 0 * 256 + get_or bs 7 0 ≡ of_bytes bs
of_8 bs l = of_first_8 bs (omega arith) ∙ ap of_bytes (take_all 8 bs (omega arith))

-- a loop that writes f of each element: one more, and all
pub written_more : {X : Type 0} (f : X → ℕ) (ws : List ℕ) (xs : List X) (i y : ℕ) (d : X) → i < length ws → i < length xs
    → y ≡ f (get_or xs i d) → take i ws ≡ map f (take i xs) → take (i + 1) (set ws i y) ≡ map f (take (i + 1) xs)
written_more f ws xs i y d hw hx e h = take_more_set ws i y hw ∙ ap₂ (λ a b. a ++ (b ∷ [])) h e ∙ sym (map_more f xs i d hx)

pub written_all : {X : Type 0} (f : X → ℕ) (ws : List ℕ) (xs : List X) (i n : ℕ) → i ≡ n → length xs ≡ n → take i ws ≡ map f (take i xs) → take n ws ≡ map f xs
written_all f ws xs i n e l h = ap (λ j. take j ws) (sym e) ∙ h ∙ ap (map f) (take_all i xs (omega arith))
