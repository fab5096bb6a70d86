-- GHASH over blocks.
use Rattle.std.proofs.Common.{◌≡◌, ℕ, zero, suc, ◌+◌, ◌-◌, ◌*◌, ◌/◌, ◌%◌, ◌<◌, ◌≤◌, List, ◌++◌, length, get_or, take as takeN, drop as dropN, sym, refl, ap, ◌∙◌, subst, ap₂, append-nil, arith, length-append, length-drop, take_all, drop-drop}
use lib.ListN.{length-replicate}
use lib.Seq.{take-append-le, drop-append-le}
use Rattle.std.specs.Simd.{first_chunks}
use Rattle.octets.specs.Bits.{bits_xor}
use Rattle.octets.specs.Bytes.{take, drop, repeat, of_bytes}
use Rattle.ghash.specs.Field.{product}
use Rattle.ghash.specs.Ghash.{ghash, zero_padded}
use Rattle.octets.proofs.Chunks.{chunk_at}
use Rattle.octets.proofs.Lists.{take_is, drop_is, repeat_is}

pub ghash_done : (h a : ℕ) (bs : List ℕ) → ghash zero h a bs ≡ a
unfolding ghash
ghash_done h a bs = refl

pub ghash_step : (n h a : ℕ) (bs : List ℕ) → ghash (suc n) h a bs ≡ ghash n h (product (bits_xor 128 a (of_bytes (take 16 bs))) h) (drop 16 bs)
unfolding ghash
ghash_step n h a bs = refl

pub drop_drops : (m n k : ℕ) (s : List ℕ) → n + m ≡ k → drop m (drop n s) ≡ drop k s
drop_drops m n k s e = drop_is m (drop n s) ∙ (ap (λ ys. dropN m ys) (drop_is n s) ∙ (drop-drop m n s ∙ (ap (λ j. dropN j s) e ∙ sym (drop_is k s))))

pub ghash_turn : (n i h a b r : ℕ) (s : List ℕ) → i < n → b ≡ product (bits_xor 128 a (of_bytes (take 16 (drop (16 * i) s)))) h
    → ghash (n - i) h a (drop (16 * i) s) ≡ r → ghash (n - (i + 1)) h b (drop (16 * (i + 1)) s) ≡ r
ghash_turn n i h a b r s hi hb inv =
    let m : ℕ = n - (i + 1) in
    let e : suc m ≡ n - i = omega arith in
    let f : 16 * i + 16 ≡ 16 * (i + 1) = omega arith in
    ap₂ (λ k ys. ghash m h k ys) hb (sym (drop_drops 16 (16 * i) (16 * (i + 1)) s f))
    ∙ (sym (ghash_step m h a (drop (16 * i) s)) ∙ (ap (λ k. ghash k h a (drop (16 * i) s)) e ∙ inv))

-- a block of those that a text is cut into
block_at : (k i : ℕ) (s d : List ℕ) → i < k → get_or (first_chunks 16 k s) i d ≡ take 16 (drop (16 * i) s)
block_at k i s d h = chunk_at 16 k i s d h ∙ sym (take_is 16 (drop (16 * i) s) ∙ ap (λ ys. takeN 16 ys) (drop_is (16 * i) s))

pub blocks_turn : (n i h a b m r : ℕ) (s d : List ℕ) (blocks : List (List ℕ)) → i < n → blocks ≡ first_chunks 16 n s → m ≡ of_bytes (get_or blocks i d) → b ≡ product (bits_xor 128 a m) h
    → ghash (n - i) h a (drop (16 * i) s) ≡ r → ghash (n - (i + 1)) h b (drop (16 * (i + 1)) s) ≡ r
blocks_turn n i h a b m r s d blocks hi hs hm hb inv =
    let block : m ≡ of_bytes (take 16 (drop (16 * i) s)) = hm ∙ ap (λ xs. of_bytes xs) (ap (λ xs. get_or xs i d) hs ∙ block_at n i s d hi) in
    ghash_turn n i h a b r s hi (hb ∙ ap (λ j. product (bits_xor 128 a j) h) block) inv

pub ghash_end : (n i h a r : ℕ) (s : List ℕ) → n ≤ i → ghash (n - i) h a s ≡ r → a ≡ r
ghash_end n i h a r s hi inv =
    let e : 0 ≡ n - i = omega arith in
    sym (ghash_done h a s) ∙ (ap (λ k. ghash k h a s) e ∙ inv)

-- only the front counts
pub ghash_front : (n h a : ℕ) (xs ys : List ℕ) → 16 * n ≤ length xs → ghash n h a (xs ++ ys) ≡ ghash n h a xs
ghash_front zero h a xs ys l = ghash_done h a (xs ++ ys) ∙ sym (ghash_done h a xs)
ghash_front (suc n) h a xs ys l =
    let t : 16 ≤ length xs = omega arith in
    let b : take 16 (xs ++ ys) ≡ take 16 xs = take_is 16 (xs ++ ys) ∙ (take-append-le 16 xs ys t ∙ sym (take_is 16 xs)) in
    let d : drop 16 (xs ++ ys) ≡ drop 16 xs ++ ys = drop_is 16 (xs ++ ys) ∙ (drop-append-le 16 xs ys t ∙ ap (λ zs. zs ++ ys) (sym (drop_is 16 xs))) in
    let m : 16 * n ≤ length (drop 16 xs) = subst (λ zs. 16 * n ≤ length zs) (sym (drop_is 16 xs)) (omega (arith, length-drop 16 xs)) in
    ghash_step n h a (xs ++ ys)
    ∙ (ap₂ (λ k zs. ghash n h (product (bits_xor 128 a (of_bytes k)) h) zs) b d
    ∙ (ghash_front n h (product (bits_xor 128 a (of_bytes (take 16 xs))) h) (drop 16 xs) ys m ∙ sym (ghash_step n h a xs)))

-- in two parts
pub ghash_parts : (m n h a : ℕ) (bs : List ℕ) → ghash (m + n) h a bs ≡ ghash n h (ghash m h a bs) (drop (16 * m) bs)
unfolding drop
ghash_parts zero n h a bs =
    let e : 0 + n ≡ n = omega arith in
    ap (λ k. ghash k h a bs) e ∙ ap (λ k. ghash n h k bs) (sym (ghash_done h a bs))
ghash_parts (suc m) n h a bs =
    let e : suc m + n ≡ suc (m + n) = omega arith in
    let f : 16 + 16 * m ≡ 16 * suc m = omega arith in
    let b : ℕ = product (bits_xor 128 a (of_bytes (take 16 bs))) h in
    ap (λ k. ghash k h a bs) e
    ∙ (ghash_step (m + n) h a bs
    ∙ (ghash_parts m n h b (drop 16 bs)
    ∙ ap₂ (λ k zs. ghash n h k zs) (sym (ghash_step m h a bs)) (drop_drops (16 * m) 16 (16 * suc m) bs f)))

-- a text of whole blocks is its own padding
pub padded_whole : (s : List ℕ) (h a r : ℕ) → length s / 16 * 16 ≡ length s → r ≡ ghash (length s / 16) h a s → r ≡ ghash (length (zero_padded s) / 16) h a (zero_padded s)
padded_whole s h a r e g =
    let z : (16 - length s % 16) % 16 ≡ 0 = omega arith in
    let p : s ≡ zero_padded s = sym (append-nil s) ∙ ap (λ k. s ++ k) (sym (repeat_is 0 0) ∙ ap (λ k. repeat k 0) (sym z)) in
    g ∙ ap (λ k. ghash (length k / 16) h a k) p

-- and any other has one block more
pub padded_last : (s rest last : List ℕ) (h acc a : ℕ) → (length s / 16 * 16 ≡ length s → ⊥) → rest ≡ dropN (length s / 16 * 16) s → last ≡ rest ++ repeat (16 - length rest) 0
    → a ≡ ghash (length s / 16) h acc s
    → product (bits_xor 128 a (of_bytes last)) h ≡ ghash (length (zero_padded s) / 16) h acc (zero_padded s)
padded_last s rest last h acc a ne er el ea =
    let m : ℕ = length s / 16 in
    let lr : length rest ≡ length s - m * 16 = ap length er ∙ length-drop (m * 16) s in
    let q : 16 - length rest ≡ (16 - length s % 16) % 16 = omega arith in
    let pad : List ℕ = repeat ((16 - length s % 16) % 16) 0 in
    let lp : length pad ≡ 16 - length rest = ap length (repeat_is ((16 - length s % 16) % 16) 0) ∙ (length-replicate ((16 - length s % 16) % 16) 0 ∙ sym q) in
    let f : 16 * m ≡ m * 16 = omega arith in
    let le : 16 * m ≤ length s = omega arith in
    let d : drop (16 * m) (s ++ pad) ≡ last =
    drop_is (16 * m) (s ++ pad)
    ∙ (drop-append-le (16 * m) s pad le ∙ (ap₂ (λ xs ys. xs ++ ys) (ap (λ k. dropN k s) f ∙ sym er) (ap (λ k. repeat k 0) (sym q)) ∙ sym el)) in
    let n : length (s ++ pad) / 16 ≡ m + 1 = omega (arith, length-append s pad) in
    let ll : length last ≡ 16 = ap length el ∙ (length-append rest (repeat (16 - length rest) 0) ∙ omega (arith, ap length (repeat_is (16 - length rest) 0) ∙ length-replicate (16 - length rest) 0)) in
    let z : take 16 last ≡ last = take_is 16 last ∙ take_all 16 last (omega arith) in
    sym
    (ap (λ k. ghash k h acc (s ++ pad)) n
    ∙ (ghash_parts m 1 h acc (s ++ pad)
    ∙ (ap₂ (λ k ys. ghash 1 h k ys) (ghash_front m h acc s pad le ∙ sym ea) d
    ∙ (ghash_step 0 h a last
    ∙ (ghash_done h (product (bits_xor 128 a (of_bytes (take 16 last))) h) (drop 16 last) ∙ ap (λ ys. product (bits_xor 128 a (of_bytes ys)) h) z)))))
