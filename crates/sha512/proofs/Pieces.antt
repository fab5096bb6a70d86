-- One more piece of a message: it stays within the block, or it fills the block and goes on.
use Rattle.std.proofs.Common.{◌≡◌, ℕ, zero, suc, ◌+◌, ◌-◌, ◌*◌, ◌/◌, ◌%◌, ◌^◌, ◌<◌, ◌≤◌, List, ◌++◌, length, take, drop, fold, sym, refl, ap, ◌∙◌, ap₂, suc-add, zero-add, add-zero, arith}
use borrow.Rule.Slice.PartMut.{put_mid}
use Rattle.std.specs.Simd.{first_chunks}
use Rattle.std.proofs.lemmas.List.{append_assoc, append-nil, length-append, length-take-le, length-drop, take-append-drop, take-append-le, drop-append-le, nil_from_length, drop_all, take_all}
use Rattle.std.proofs.lemmas.Slice.{take-put_mid}
use Rattle.octets.specs.Bytes as O
use Rattle.octets.proofs.Lists.{take_is, drop_is, length-drop as octets_drop}
use Rattle.sha512.specs.Sha512.{hash_blocks, compress_block}
use Rattle.sha512.specs.Held.{Held}
use Rattle.sha512.specs.declared.stream.Stream.{Stream}
use Rattle.sha512.proofs.Chunks.{hash_blocks_is}

pub hash_blocks-append : (a b : ℕ) (s xs ys : List ℕ) → length xs ≡ 128 * a → hash_blocks (a + b) s (xs ++ ys) ≡ hash_blocks b (hash_blocks a s xs) ys
unfolding hash_blocks
hash_blocks-append zero b s xs ys h = ap₂ (λ n zs. hash_blocks n s (zs ++ ys)) (zero-add b) (nil_from_length xs h)
hash_blocks-append (suc a) b s xs ys h =
    let le : 128 ≤ length xs = omega arith in
    let l : length (O.drop 128 xs) ≡ 128 * a = octets_drop 128 xs ∙ omega arith in
    ap (λ n. hash_blocks n s (xs ++ ys)) (suc-add a b)
    ∙ ap₂ (λ x y. hash_blocks (a + b) (compress_block s x) y)
    (take_is 128 (xs ++ ys) ∙ take-append-le 128 xs ys le ∙ sym (take_is 128 xs))
    (drop_is 128 (xs ++ ys) ∙ drop-append-le 128 xs ys le ∙ ap (λ zs. zs ++ ys) (sym (drop_is 128 xs)))
    ∙ hash_blocks-append a b (compress_block s (O.take 128 xs)) (O.drop 128 xs) ys l

-- what comes after the blocks isn't read
hash_blocks_front : (n : ℕ) (s xs ys : List ℕ) → length xs ≡ 128 * n → hash_blocks n s (xs ++ ys) ≡ hash_blocks n s xs
unfolding hash_blocks
hash_blocks_front n s xs ys h = ap (λ k. hash_blocks k s (xs ++ ys)) (sym (add-zero n)) ∙ hash_blocks-append n 0 s xs ys h

counted_more : (t n : ℕ) (m bytes : List ℕ) → t ≡ length m % 2 ^ 128 → n ≡ (t + length bytes) % 2 ^ 128 → n ≡ length (m ++ bytes) % 2 ^ 128
counted_more t n m bytes e h = omega (arith, length-append m bytes)

pub held_within : {initial m : List ℕ} {s s' : Stream} (bytes ys : List ℕ) (k : ℕ) → Held initial s m → length s.block ≡ 128
    → length bytes < 128 - s.total % 128 → ys ≡ bytes
    → s'.state ≡ s.state → s'.block ≡ put_mid (s.total % 128) k s.block ys → s'.total ≡ (s.total + length bytes) % 2 ^ 128
    → Held initial s' (m ++ bytes)
held_within {m = m} {s = s} {s' = s'} bytes ys k t l lb ey es eb et =
    let used : ℕ = s.total % 128 in
    let u : s'.total % 128 ≡ used + length bytes = omega arith in
    let v : s'.total % 128 ≡ used + length ys = u ∙ ap (λ (xs : List ℕ). used + length xs) (sym ey) in
    record {
      front = t.front;
      count = t.count;
      whole = t.whole;
      parts = ap (λ (xs : List ℕ). xs ++ bytes) t.parts ∙ append_assoc t.front (take used s.block) bytes
          ∙ ap (λ (xs : List ℕ). t.front ++ xs)
          (sym (ap (take (s'.total % 128)) eb ∙ take-put_mid used k s.block ys (s'.total % 128) v (omega arith)
          ∙ ap (λ (xs : List ℕ). take used s.block ++ xs) ey));
      hashed = es ∙ t.hashed;
      counted = counted_more s.total s'.total m bytes t.counted et;
    }

-- the block once it is full
full_block : (used : ℕ) (block ys : List ℕ) → length block ≡ 128 → used ≤ 128 → put_mid used (128 - used) block ys ≡ take used block ++ ys
full_block used block ys l h =
    let d : length (drop used block) ≤ 128 - used = omega (arith, length-drop used block) in
    ap (λ xs. take used block ++ (ys ++ xs)) (drop_all (128 - used) (drop used block) d) ∙ ap (λ xs. take used block ++ xs) (append-nil ys)

one_more : (initial s front b : List ℕ) (a : ℕ) → s ≡ hash_blocks a initial front → length front ≡ 128 * a → length b ≡ 128
    → compress_block s b ≡ hash_blocks (a + 1) initial (front ++ b)
unfolding hash_blocks
one_more initial s front b a e l lb =
    ap (compress_block s) (sym (take_is 128 b ∙ take_all 128 b (omega arith))) ∙ ap (λ x. hash_blocks 1 x b) e
    ∙ sym (hash_blocks-append a 1 initial front b l)

pub held_chunks : {initial m : List ℕ} {s s' : Stream} (bytes ys rest zs full : List ℕ) (chunks : List (List ℕ)) (used k : ℕ) → Held initial s m → length s.block ≡ 128
    → used ≡ s.total % 128 → 128 - used ≤ length bytes
    → ys ≡ take (128 - used) bytes → rest ≡ drop (128 - used) bytes
    → full ≡ compress_block s.state (put_mid used (128 - used) s.block ys)
    → chunks ≡ first_chunks 128 (length rest / 128) rest → zs ≡ drop (length rest / 128 * 128) rest
    → s'.state ≡ fold compress_block full chunks
    → s'.block ≡ put_mid 0 k (put_mid used (128 - used) s.block ys) zs → s'.total ≡ (s.total + length bytes) % 2 ^ 128
    → Held initial s' (m ++ bytes)
held_chunks {initial} {m} {s} {s'} bytes ys rest zs full chunks used k t l eu lb ey er ef ec ez es eb et =
    let room : ℕ = 128 - used in
    let b : List ℕ = take used s.block ++ ys in
    let a : ℕ = length rest / 128 in
    let w : ℕ = a * 128 in
    let l1 : length (take used s.block) ≡ used = length-take-le used s.block (omega arith) in
    let l2 : length ys ≡ room = ap length ey ∙ length-take-le room bytes lb in
    let l3 : length b ≡ 128 = length-append (take used s.block) ys ∙ omega arith in
    let l4 : length (take w rest) ≡ w = length-take-le w rest (omega arith) in
    let l5 : length (t.front ++ b) ≡ 128 * (t.count + 1) = length-append t.front b ∙ (let q = t.whole in omega arith) in
    let l6 : length ((t.front ++ b) ++ take w rest) ≡ 128 * (t.count + 1 + a) = length-append (t.front ++ b) (take w rest) ∙ omega arith in
    let f : full ≡ hash_blocks (t.count + 1) initial (t.front ++ b)
    = ef ∙ ap (compress_block s.state) (full_block used s.block ys l (omega arith)) ∙ one_more initial s.state t.front b t.count t.hashed t.whole l3 in
    let both : (t.front ++ b) ++ rest ≡ ((t.front ++ b) ++ take w rest) ++ drop w rest
    = ap (λ xs. (t.front ++ b) ++ xs) (sym (take-append-drop w rest)) ∙ sym (append_assoc (t.front ++ b) (take w rest) (drop w rest)) in
    let u : s'.total % 128 ≡ length zs = omega (arith, ap length ez, length-drop w rest, ap length er, length-drop room bytes) in
    record {
      front = (t.front ++ b) ++ take w rest;
      count = t.count + 1 + a;
      whole = l6;
      parts =
          ap₂ (λ xs ys. xs ++ ys) t.parts (sym (take-append-drop room bytes) ∙ sym (ap₂ (λ xs ys. xs ++ ys) ey er))
          ∙ ap (λ n. (t.front ++ take n s.block) ++ (ys ++ rest)) (sym eu)
          ∙ sym (append_assoc (t.front ++ take used s.block) ys rest) ∙ ap (λ xs. xs ++ rest) (append_assoc t.front (take used s.block) ys)
          ∙ both
          ∙ ap (λ xs. ((t.front ++ b) ++ take w rest) ++ xs)
          (sym (ap (take (s'.total % 128)) eb ∙ take-put_mid 0 k (put_mid used room s.block ys) zs (s'.total % 128) (omega arith) (omega arith) ∙ ez));
      hashed =
          es ∙ ap (fold compress_block full) ec ∙ sym (hash_blocks_is a full rest) ∙ ap (λ x. hash_blocks a x rest) f
          ∙ sym (hash_blocks-append (t.count + 1) a initial (t.front ++ b) rest l5)
          ∙ ap (hash_blocks (t.count + 1 + a) initial) both ∙ hash_blocks_front (t.count + 1 + a) initial _ (drop w rest) l6;
      counted = counted_more s.total s'.total m bytes t.counted et;
    }

-- the same, of the blocks as one text
pub held_beyond : {initial m : List ℕ} {s s' : Stream} (bytes ys zs full rest : List ℕ) (w k : ℕ) → Held initial s m → length s.block ≡ 128
    → 128 - s.total % 128 ≤ length bytes
    → ys ≡ take (128 - s.total % 128) bytes → full ≡ compress_block s.state (put_mid (s.total % 128) (128 - s.total % 128) s.block ys)
    → rest ≡ drop (128 - s.total % 128) bytes → w ≡ length rest / 128 * 128
    → s'.state ≡ hash_blocks (length (take w rest) / 128) full (take w rest) → zs ≡ drop w rest
    → s'.block ≡ put_mid 0 k (put_mid (s.total % 128) (128 - s.total % 128) s.block ys) zs → s'.total ≡ (s.total + length bytes) % 2 ^ 128
    → Held initial s' (m ++ bytes)
held_beyond {initial} {m} {s} {s'} bytes ys zs full rest w k t l lb ey ef er ew es ez eb et =
    let a : ℕ = length rest / 128 in
    let l4 : length (take w rest) ≡ w = length-take-le w rest (omega arith) in
    let d : length (take w rest) / 128 ≡ a = omega arith in
    let cut : hash_blocks a full (take w rest) ≡ hash_blocks a full rest
    = sym (hash_blocks_front a full (take w rest) (drop w rest) (omega arith)) ∙ ap (hash_blocks a full) (take-append-drop w rest) in
    held_chunks bytes ys rest zs full (first_chunks 128 a rest) (s.total % 128) k t l refl lb ey er ef refl (ez ∙ ap (λ n. drop n rest) ew)
    (es ∙ ap (λ n. hash_blocks n full (take w rest)) d ∙ cut ∙ hash_blocks_is a full rest) eb et

-- where the message ends with a block, nothing waits
pub held_whole : {initial m : List ℕ} {s : Stream} → Held initial s m → length m % 128 ≡ 0 → s.state ≡ hash_blocks (length m / 128) initial m
held_whole {initial} {m} {s} t e =
    let z : s.total % 128 ≡ 0 = omega (arith, t.counted) in
    let p : m ≡ t.front = t.parts ∙ ap (λ n. t.front ++ take n s.block) z ∙ append-nil t.front in
    let n : t.count ≡ length m / 128 = omega (arith, ap length p, t.whole) in
    t.hashed ∙ ap₂ (λ k xs. hash_blocks k initial xs) n (sym p)
