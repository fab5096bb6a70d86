-- Counter mode: bytes under exclusive or with a block's, one block more, and the end.
use Rattle.std.proofs.Common.{◌≡◌, ℕ, zero, suc, ◌+◌, ◌-◌, ◌*◌, ◌/◌, ◌<◌, ◌≤◌, min, ◌⊎◌, List, [], ◌∷◌, ◌++◌, length, get_or, take as takeN, drop as dropN, set, sym, refl, ap, ◌∙◌, ap₂, inl, inr, ⊎_elim, append_assoc, append-nil, arith, length-append, length-drop, length-take-le, take_all, drop-drop, take_at, drop_at}
use lib.Bits.{bit_xor}
use borrow.Rule.Slice.PartMut.{put_mid}
use Rattle.std.proofs.lemmas.List.{drop_all, take_more, take_more_set}
use Rattle.std.proofs.lemmas.Bool.{cases_lt}
use Rattle.octets.specs.Bits.{bits_xor}
use Rattle.octets.specs.Bytes.{take, drop, xor_bytes, to_bytes}
use Rattle.octets.proofs.Bits.{bits_xor_is}
use Rattle.octets.proofs.Lists.{take_is, drop_is}
use Rattle.octets.proofs.XorBytes.{length-xor, get_or-xor_bytes}
use Rattle.aes256.specs.Aes.{aes}
use Rattle.gcm.specs.Gcm.{ctr_blocks}

-- a byte more under exclusive or
pub xor_more : (src key now : List ℕ) (j a b : ℕ) → length src ≤ length key → length now ≡ length src → j < length src → a ≡ get_or src j 0 → b ≡ get_or key j 0 → a < 256 → b < 256
    → takeN j now ≡ takeN j (xor_bytes src key) → takeN (j + 1) (set now j (bit_xor a b)) ≡ takeN (j + 1) (xor_bytes src key)
xor_more src key now j a b hk hn hj ea eb ha hb e =
    let x : bit_xor a b ≡ get_or (xor_bytes src key) j 0 =
    sym (get_or-xor_bytes src key j hj (omega arith) ∙ (ap₂ (λ p q. bits_xor 8 p q) (sym ea) (sym eb) ∙ bits_xor_is 8 a b ha hb)) in
    take_more_set now j (bit_xor a b) (omega arith)
    ∙ (ap₂ (λ xs y. xs ++ (y ∷ [])) e x ∙ sym (take_more (xor_bytes src key) j 0 (omega (arith, length-xor src key hk))))

-- the counter's block
pub counter_block : (xs ys nonce : List ℕ) (c : ℕ) → length nonce ≡ 12 → xs ≡ nonce → ys ≡ to_bytes 4 c → put_mid 12 4 (xs ++ (0 ∷ (0 ∷ (0 ∷ (0 ∷ []))))) ys ≡ nonce ++ to_bytes 4 c
counter_block xs ys nonce c h ex ey =
    let zeros : List ℕ = 0 ∷ (0 ∷ (0 ∷ (0 ∷ []))) in
    ap₂ (λ us vs. put_mid 12 4 (us ++ zeros) vs) ex ey
    ∙ (ap₂ (λ us vs. us ++ (to_bytes 4 c ++ dropN 4 vs)) (take_at nonce zeros 12 h) (drop_at nonce zeros 12 h) ∙ ap (λ us. nonce ++ us) (append-nil (to_bytes 4 c)))

-- one block more
pub ctr_blocks_step : (n c : ℕ) (ks nonce bs : List ℕ)
    → ctr_blocks (suc n) c ks nonce bs ≡ xor_bytes (take 16 bs) (aes ks (nonce ++ to_bytes 4 c)) ++ ctr_blocks n (suc c) ks nonce (drop 16 bs)
unfolding ctr_blocks
ctr_blocks_step n c ks nonce bs = refl

pub ctr_blocks_none : (c : ℕ) (ks nonce bs : List ℕ) → ctr_blocks zero c ks nonce bs ≡ []
unfolding ctr_blocks
ctr_blocks_none c ks nonce bs = refl

same_front : (bs : List ℕ) (n : ℕ) → n ≡ min (length bs) 16 → takeN 16 bs ≡ takeN n bs
same_front bs n e =
    ⊎_elim (λ h. let l : 16 ≡ n = omega arith in ap (λ k. takeN k bs) l) (λ h. take_all 16 bs (omega arith) ∙ sym (take_all n bs (omega arith))) (cases_lt 16 (length bs))

-- what is written so far, where the last block may be short
written : (xs ys : List ℕ) (m : ℕ) → (length xs ≡ m) ⊎ ((ys ≡ []) × (length xs ≤ m)) → takeN m (xs ++ ys) ≡ xs
written xs ys m e = ⊎_elim (λ l. take_at xs ys m l) (λ p. ap (λ zs. takeN m (xs ++ zs)) p.0 ∙ (ap (λ zs. takeN m zs) (append-nil xs) ∙ take_all m xs p.1)) e

pub ctr_turn : (ks nonce src dst key x : List ℕ) (i m n : ℕ) (r : List ℕ) → i < m → m ≡ (length src + 15) / 16 → length dst ≡ length src → length key ≡ 16
    → n ≡ min (length src - 16 * i) 16 → key ≡ aes ks (nonce ++ to_bytes 4 (i + 2)) → x ≡ xor_bytes (takeN n (dropN (16 * i) src)) key
    → takeN (16 * i) dst ++ ctr_blocks (m - i) (i + 2) ks nonce (dropN (16 * i) src) ≡ r
    → takeN (16 * (i + 1)) (put_mid (16 * i) n dst x) ++ ctr_blocks (m - (i + 1)) (i + 1 + 2) ks nonce (dropN (16 * (i + 1)) src) ≡ r
ctr_turn ks nonce src dst key x i m n r hi hm hd hk hn ek ex inv =
    let at : ℕ = 16 * i in
    let bs : List ℕ = dropN at src in
    let rest : List ℕ = dropN (16 * (i + 1)) src in
    let lb : length bs ≡ length src - at = length-drop at src in
    let ln : length (takeN n bs) ≡ n = length-take-le n bs (omega arith) in
    let lx : length x ≡ n = ap length ex ∙ (length-xor (takeN n bs) key (omega arith) ∙ ln) in
    let lt : length (takeN at dst) ≡ at = length-take-le at dst (omega arith) in
    let la : length (takeN at dst ++ x) ≡ at + n = length-append (takeN at dst) x ∙ ap₂ (λ p q. p + q) lt lx in
    let w : (length (takeN at dst ++ x) ≡ 16 * (i + 1)) ⊎ ((dropN (at + n) dst ≡ []) × (length (takeN at dst ++ x) ≤ 16 * (i + 1))) =
    ⊎_elim (λ h. inr (drop_all (at + n) dst (omega arith), omega arith)) (λ h. inl (omega arith)) (cases_lt (length src) (16 * (i + 1))) in
    let f : takeN (16 * (i + 1)) (put_mid at n dst x) ≡ takeN at dst ++ x =
    ap (λ ys. takeN (16 * (i + 1)) ys) (ap (λ ys. takeN at dst ++ (x ++ ys)) (drop-drop n at dst) ∙ sym (append_assoc (takeN at dst) x (dropN (at + n) dst))) ∙ written (takeN at dst ++ x) (dropN (at + n) dst) (16 * (i + 1)) w in
    let hb : n ≡ min (length bs) 16 = hn ∙ ap (λ k. min k 16) (sym lb) in
    let p : xor_bytes (take 16 bs) (aes ks (nonce ++ to_bytes 4 (i + 2))) ≡ x = ap₂ (λ ys zs. xor_bytes ys zs) (take_is 16 bs ∙ same_front bs n hb) (sym ek) ∙ sym ex in
    let g : at + 16 ≡ 16 * (i + 1) = omega arith in
    let q : drop 16 bs ≡ rest = drop_is 16 bs ∙ (drop-drop 16 at src ∙ ap (λ k. dropN k src) g) in
    let s : suc (m - (i + 1)) ≡ m - i = omega arith in
    let c : suc (i + 2) ≡ i + 1 + 2 = omega arith in
    let t : ctr_blocks (m - i) (i + 2) ks nonce bs ≡ x ++ ctr_blocks (m - (i + 1)) (i + 1 + 2) ks nonce rest =
    ap (λ k. ctr_blocks k (i + 2) ks nonce bs) (sym s)
    ∙ (ctr_blocks_step (m - (i + 1)) (i + 2) ks nonce bs
    ∙ (ap₂ (λ ys zs. ys ++ ctr_blocks (m - (i + 1)) (suc (i + 2)) ks nonce zs) p q ∙ ap (λ k. x ++ ctr_blocks (m - (i + 1)) k ks nonce rest) c)) in
    ap (λ ys. ys ++ ctr_blocks (m - (i + 1)) (i + 1 + 2) ks nonce rest) f
    ∙ (append_assoc (takeN at dst) x (ctr_blocks (m - (i + 1)) (i + 1 + 2) ks nonce rest) ∙ (ap (λ ys. takeN at dst ++ ys) (sym t) ∙ inv))

pub ctr_end : (ks nonce src dst : List ℕ) (i m : ℕ) (r : List ℕ) → m ≤ i → m ≡ (length src + 15) / 16 → length dst ≡ length src
    → takeN (16 * i) dst ++ ctr_blocks (m - i) (i + 2) ks nonce (dropN (16 * i) src) ≡ r → dst ≡ r
ctr_end ks nonce src dst i m r h hm e inv =
    let z : 0 ≡ m - i = omega arith in
    let bs : List ℕ = dropN (16 * i) src in
    sym (append-nil dst)
    ∙ (ap₂ (λ xs ys. xs ++ ys) (sym (take_all (16 * i) dst (omega arith))) (sym (ctr_blocks_none (i + 2) ks nonce bs) ∙ ap (λ k. ctr_blocks k (i + 2) ks nonce bs) z) ∙ inv)
