-- A message's padding, and words as bytes.
use Rattle.std.proofs.Common.{◌≡◌, ℕ, suc, ◌+◌, ◌-◌, ◌*◌, ◌/◌, ◌%◌, ◌^◌, ◌<◌, ◌≤◌, List, [], ◌∷◌, ◌++◌, length, sym, ap, ◌∙◌, ap₂, add-one, arith}
use lib.ListN as L
use borrow.Rule.Slice.PartMut.{put_mid}
use Rattle.std.proofs.lemmas.List.{append_assoc, append-nil, length-append, length-replicate, take-replicate, length-take-le, length-drop, set_at, take_at, drop-replicate, replicate-append-replicate}
use Rattle.std.proofs.lemmas.Slice.{take-put_mid}
use Rattle.octets.specs.Bytes.{repeat, to_bytes}
use Rattle.octets.proofs.Lists.{repeat_is}
use Rattle.octets.proofs.Numbers.{to_bytes_mod, length-to_bytes}
use Rattle.sha512.specs.Sha512.{hash_blocks, padded, words_bytes, final_state}
use Rattle.sha512.specs.Held.{Held}
use Rattle.sha512.specs.declared.stream.Stream.{Stream}
use Rattle.sha512.proofs.Pieces.{hash_blocks-append, held_whole}

-- a length that is counted modulo 2^128 gives the same 16 bytes
pub bits_counted : (t n : ℕ) → t ≡ n % 2 ^ 128 → to_bytes 16 ((t * 8) % 2 ^ 128) ≡ to_bytes 16 (8 * n)
bits_counted t n e =
    let m : (t * 8) % 2 ^ 128 ≡ (8 * n) % 256 ^ 16 = omega arith in
    ap (to_bytes 16) m ∙ to_bytes_mod 16 (8 * n)

-- a message with its padding is whole blocks
length-padded : (m : List ℕ) → length (padded m) % 128 ≡ 0
length-padded m =
    let z : ℕ = (239 - length m % 128) % 128 in
    let a = length-append m (128 ∷ (repeat z 0 ++ to_bytes 16 (8 * length m))) in
    let b = length-append (repeat z 0) (to_bytes 16 (8 * length m)) in
    let r : length (repeat z 0) ≡ z = ap length (repeat_is z 0) ∙ length-replicate z 0 in
    let t = length-to_bytes 16 (8 * length m) in
    omega arith

-- the padding as it is cut from a block that begins with the bit
pub held_padded : {initial : List ℕ} {s : Stream} (m : List ℕ) (k : ℕ) (bits : List ℕ) → Held initial s ((m ++ L.take k (128 ∷ L.replicate 127 0)) ++ bits)
    → k ≡ (239 - length m % 128) % 128 + 1 → bits ≡ to_bytes 16 (8 * length m)
    → s.state ≡ final_state initial m
held_padded {initial} {s} m k bits t ek eb =
    let z : ℕ = (239 - length m % 128) % 128 in
    let p : L.take k (128 ∷ L.replicate 127 0) ≡ 128 ∷ repeat z 0
    = ap (λ n. L.take n (128 ∷ L.replicate 127 0)) (ek ∙ add-one z) ∙ ap (λ xs. 128 ∷ xs) (take-replicate z 127 0 (omega arith) ∙ sym (repeat_is z 0)) in
    let e : (m ++ L.take k (128 ∷ L.replicate 127 0)) ++ bits ≡ padded m
    = append_assoc m _ bits ∙ ap₂ (λ xs ys. m ++ (xs ++ ys)) p eb in
    held_whole (rw e at t) (length-padded m)

pub words_bytes_push : (ws : List ℕ) (w : ℕ) → words_bytes (ws ++ (w ∷ [])) ≡ words_bytes ws ++ to_bytes 8 w
unfolding words_bytes
words_bytes_push [] w = append-nil (to_bytes 8 w)
words_bytes_push (x ∷ xs) w = ap (λ (bs : List ℕ). to_bytes 8 x ++ bs) (words_bytes_push xs w) ∙ sym (append_assoc (to_bytes 8 x) (words_bytes xs) (to_bytes 8 w))

-- what is put after a message of n bytes
unfoldable pub ending : ℕ → List ℕ
ending n = 128 ∷ (repeat ((239 - n % 128) % 128) 0 ++ to_bytes 16 (8 * n))

-- a message in two parts, the first of whole blocks
pub final_parts : (initial p r : List ℕ) (a n : ℕ) → L.length p ≡ 128 * a → L.length (p ++ r) ≡ n
    → final_state initial (p ++ r) ≡ hash_blocks (L.length (r ++ ending n) / 128) (hash_blocks a initial p) (r ++ ending n)
unfolding ending
final_parts initial p r a n h e =
    let f : padded (p ++ r) ≡ p ++ (r ++ ending n) = ap (λ (k : ℕ). (p ++ r) ++ ending k) e ∙ append_assoc p r (ending n) in
    let l : L.length (p ++ (r ++ ending n)) ≡ L.length p + L.length (r ++ ending n) = length-append p (r ++ ending n) in
    let d : L.length (p ++ (r ++ ending n)) / 128 ≡ a + L.length (r ++ ending n) / 128 = omega arith in
    ap (λ (m : List ℕ). hash_blocks (L.length m / 128) initial m) f
    ∙ ap (λ (k : ℕ). hash_blocks k initial (p ++ (r ++ ending n))) d
    ∙ hash_blocks-append a (L.length (r ++ ending n) / 128) initial p (r ++ ending n) h

-- the last block or two as they are written into an array of zeros: what is left, 128, zeros, and the number of bits
cut_zeros : (rest : List ℕ) (b z y : ℕ) (m n : ℕ) → z + y ≡ n → L.length rest + 1 + z ≡ m
    → L.take m (rest ++ (b ∷ L.replicate n 0)) ≡ rest ++ (b ∷ L.replicate z 0)
cut_zeros rest b z y m n e l =
    let g : L.length (rest ++ (b ∷ L.replicate z 0)) ≡ m = length-append rest (b ∷ L.replicate z 0) ∙ (let q = length-replicate {A = ℕ} z 0 in omega arith) in
    ap (λ (xs : List ℕ). L.take m (rest ++ (b ∷ xs))) (sym (replicate-append-replicate z y 0 ∙ ap (λ (j : ℕ). L.replicate j 0) e))
    ∙ ap (L.take m) (sym (append_assoc rest (b ∷ L.replicate z 0) (L.replicate y 0)))
    ∙ take_at (rest ++ (b ∷ L.replicate z 0)) (L.replicate y 0) m g

-- an array of N zeros, `rest` copied to its front, and one byte after it
marked : (N b : ℕ) (rest ys : List ℕ) (u v n : ℕ) → ys ≡ rest → u ≡ L.length rest → v ≡ u → suc n + u ≡ N
    → L.set (put_mid 0 v (L.replicate N 0) ys) u b ≡ rest ++ (b ∷ L.replicate n 0)
marked N b rest ys u v n ey eu ev h =
    let e : N - v ≡ suc n = omega arith in
    ap₂ (λ (zs xs : List ℕ). L.set (zs ++ xs) u b) ey (drop-replicate v N 0 ∙ ap (λ (j : ℕ). L.replicate j 0) e)
    ∙ set_at rest 0 (L.replicate n 0) b u (sym eu)

pub marked_length : (N b : ℕ) (rest ys : List ℕ) (u v : ℕ) → ys ≡ rest → u ≡ L.length rest → v ≡ u → u < N
    → L.length (L.set (put_mid 0 v (L.replicate N 0) ys) u b) ≡ N
marked_length N b rest ys u v ey eu ev h =
    ap L.length (marked N b rest ys u v (N - 1 - u) ey eu ev (omega arith)) ∙ length-append rest (b ∷ L.replicate (N - 1 - u) 0)
    ∙ (let q = length-replicate {A = ℕ} (N - 1 - u) 0 in omega arith)

pub put_length : (a k : ℕ) (xs ys : List ℕ) → a + k ≤ L.length xs → L.length ys ≡ k → L.length (put_mid a k xs ys) ≡ L.length xs
put_length a k xs ys h e =
    length-append (L.take a xs) (ys ++ L.drop k (L.drop a xs))
    ∙ (let p = length-append ys (L.drop k (L.drop a xs)) in let q = length-drop k (L.drop a xs) in let r = length-drop a xs in
    let t : L.length (L.take a xs) ≡ a = length-take-le a xs (omega arith) in omega arith)

pub last_blocks : (rest ys lb : List ℕ) (total size t u v k : ℕ) → t ≡ size → ys ≡ rest → L.length rest ≡ total % 128 → size ≡ (L.length rest + 144) / 128 * 128
    → lb ≡ to_bytes 16 (8 * total) → L.length lb ≡ 16 → u ≡ L.length rest → v ≡ u
    → L.take t (put_mid (size - 16) k (L.set (put_mid 0 v (L.replicate 256 0) ys) u 128) lb) ≡ rest ++ ending total
unfolding ending
last_blocks rest ys lb total size t u v k et ey h hs hl l16 eu ev =
    let z : ℕ = (239 - total % 128) % 128 in
    let n : ℕ = 255 - u in
    let r : L.length rest < 128 = omega arith in
    let a1 : suc n + u ≡ 256 = omega arith in
    let a2 : L.length rest + 1 + z ≡ size - 16 = omega arith in
    let a3 : z + (n - z) ≡ n = omega arith in
    let a4 : size ≡ (size - 16) + L.length lb = omega arith in
    let a5 : size - 16 ≤ L.length (rest ++ (128 ∷ L.replicate n 0)) = omega (arith, length-append rest (128 ∷ L.replicate n 0), length-replicate {A = ℕ} n 0) in
    ap₂ (λ (j : ℕ) (xs : List ℕ). L.take j (put_mid (size - 16) k xs lb)) et (marked 256 128 rest ys u v n ey eu ev a1)
    ∙ take-put_mid (size - 16) k (rest ++ (128 ∷ L.replicate n 0)) lb size a4 a5
    ∙ ap (λ (xs : List ℕ). xs ++ lb) (cut_zeros rest 128 z (n - z) (size - 16) n a3 a2)
    ∙ append_assoc rest (128 ∷ L.replicate z 0) lb
    ∙ ap₂ (λ (xs ys : List ℕ). rest ++ (128 ∷ (xs ++ ys))) (sym (repeat_is z 0)) hl
