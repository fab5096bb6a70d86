-- What is sealed is as long as the text, its tag 16 bytes long, and opening it gives the text.
use Rattle.std.proofs.Common.{◌≡◌, ℕ, zero, suc, ◌+◌, ◌-◌, ◌*◌, ◌/◌, ◌<◌, ◌≤◌, min, true, List, [], ◌∷◌, ◌++◌, length, take as takeN, drop as dropN, sym, refl, ap, ◌∙◌, ap₂, ⊎_elim, arith, length-append, take-append-drop, length-take as length-takeN, take_at, drop_at}
use Rattle.std.proofs.lemmas.List.{append-nil, drop_all, nil_from_length, take_all}
use Rattle.std.proofs.lemmas.Bool.{cases_lt}
use Rattle.octets.specs.Bytes.{all_bytes, bytes_eq, take, drop, repeat, xor_bytes, to_bytes, of_bytes}
use Rattle.octets.proofs.Bits.{pick_true}
use Rattle.octets.proofs.Lists.{take_is, drop_is, length-drop}
use Rattle.octets.proofs.Numbers.{all_bytes-drop, all_bytes-take, bytes_eq_refl, length-to_bytes}
use Rattle.octets.proofs.XorBytes.{length-xor, xor_twice}
use Rattle.aes256.specs.Aes.{round_keys, aes}
use Rattle.ghash.specs.Ghash.{ghash, zero_padded}
use Rattle.gcm.specs.Gcm.{tag_of, ctr_blocks, ctr, seal, unseal}
use Rattle.gcm.specs.Statements.{OpenUndoesSeal}
use Rattle.aes256.proofs.Lengths.{length-aes, length-round_keys}
use Rattle.gcm.proofs.Streams.{ctr_blocks_step, ctr_blocks_none}

-- counter mode keeps the length, and undoes itself
ctr_blocks_nil : (n c : ℕ) (ks nonce : List ℕ) → ctr_blocks n c ks nonce [] ≡ []
unfolding ctr_blocks take drop xor_bytes
ctr_blocks_nil zero c ks nonce = refl
ctr_blocks_nil (suc n) c ks nonce = ctr_blocks_nil n (suc c) ks nonce

length_front : (xs : List ℕ) → length (take 16 xs) ≡ min 16 (length xs)
length_front xs = ap length (take_is 16 xs) ∙ length-takeN 16 xs

masked_front : (ks b xs : List ℕ) → length ks ≡ 240 → length (xor_bytes (take 16 xs) (aes ks b)) ≡ min 16 (length xs)
masked_front ks b xs h =
    let l = length_front xs in
    let k = length-aes ks b h in
    length-xor (take 16 xs) (aes ks b) (omega arith) ∙ l

pub length-ctr_blocks : (n c : ℕ) (ks nonce bs : List ℕ) → length ks ≡ 240 → length bs ≤ 16 * n → length (ctr_blocks n c ks nonce bs) ≡ length bs
length-ctr_blocks zero c ks nonce bs hk h = ap length (ctr_blocks_none c ks nonce bs) ∙ omega arith
length-ctr_blocks (suc n) c ks nonce bs hk h =
    let b : List ℕ = nonce ++ to_bytes 4 c in
    let x : List ℕ = xor_bytes (take 16 bs) (aes ks b) in
    let s : List ℕ = ctr_blocks n (suc c) ks nonce (drop 16 bs) in
    let lx : length x ≡ min 16 (length bs) = masked_front ks b bs hk in
    let lb = length-drop 16 bs in
    let ls : length s ≡ length (drop 16 bs) = length-ctr_blocks n (suc c) ks nonce (drop 16 bs) hk (omega arith) in
    ap length (ctr_blocks_step n c ks nonce bs) ∙ (length-append x s ∙ omega arith)

pub ctr_blocks_twice : (n c : ℕ) (ks nonce bs : List ℕ) → length ks ≡ 240 → all_bytes bs ≡ true → length bs ≤ 16 * n
    → ctr_blocks n c ks nonce (ctr_blocks n c ks nonce bs) ≡ bs
ctr_blocks_twice zero c ks nonce bs hk hb h = ctr_blocks_none c ks nonce (ctr_blocks zero c ks nonce bs) ∙ sym (nil_from_length bs (omega arith))
ctr_blocks_twice (suc n) c ks nonce bs hk hb h =
    let b : List ℕ = nonce ++ to_bytes 4 c in
    let k : List ℕ = aes ks b in
    let x : List ℕ = xor_bytes (take 16 bs) k in
    let s : List ℕ = ctr_blocks n (suc c) ks nonce (drop 16 bs) in
    let lk : length k ≡ 16 = length-aes ks b hk in
    let lx : length x ≡ min 16 (length bs) = masked_front ks b bs hk in
    let lf : length (take 16 bs) ≡ min 16 (length bs) = length_front bs in
    let lb : length (drop 16 bs) ≡ length bs - 16 = length-drop 16 bs in
    let short : length bs < 16 → s ≡ [] =
    λ l. ap (λ ys. ctr_blocks n (suc c) ks nonce ys) (nil_from_length (drop 16 bs) (omega arith)) ∙ ctr_blocks_nil n (suc c) ks nonce in
    let front : take 16 (x ++ s) ≡ x =
    take_is 16 (x ++ s)
    ∙ ⊎_elim (λ l. ap (λ ys. takeN 16 (x ++ ys)) (short l) ∙ (ap (λ ys. takeN 16 ys) (append-nil x) ∙ take_all 16 x (omega arith))) (λ l. take_at x s 16 (omega arith))
    (cases_lt (length bs) 16) in
    let back : drop 16 (x ++ s) ≡ s =
    drop_is 16 (x ++ s)
    ∙ ⊎_elim (λ l. ap (λ ys. dropN 16 (x ++ ys)) (short l) ∙ (ap (λ ys. dropN 16 ys) (append-nil x) ∙ (drop_all 16 x (omega arith) ∙ sym (short l))))
    (λ l. drop_at x s 16 (omega arith)) (cases_lt (length bs) 16) in
    let again : xor_bytes x k ≡ take 16 bs = xor_twice (take 16 bs) k (all_bytes-take 16 bs hb) (omega arith) in
    let rest : ctr_blocks n (suc c) ks nonce s ≡ drop 16 bs = ctr_blocks_twice n (suc c) ks nonce (drop 16 bs) hk (all_bytes-drop 16 bs hb) (omega arith) in
    ap (λ ys. ctr_blocks (suc n) c ks nonce ys) (ctr_blocks_step n c ks nonce bs)
    ∙ (ctr_blocks_step n c ks nonce (x ++ s)
    ∙ (ap₂ (λ ys zs. xor_bytes ys k ++ ctr_blocks n (suc c) ks nonce zs) front back
    ∙ (ap₂ (λ ys zs. ys ++ zs) (again ∙ take_is 16 bs) (rest ∙ drop_is 16 bs) ∙ take-append-drop 16 bs)))

pub ctr_twice : (ks nonce bs : List ℕ) → length ks ≡ 240 → all_bytes bs ≡ true → ctr ks nonce (ctr ks nonce bs) ≡ bs
ctr_twice ks nonce bs hk hb =
    let n : ℕ = (length bs + 15) / 16 in
    let h : length bs ≤ 16 * n = omega arith in
    let l : length (ctr_blocks n 2 ks nonce bs) ≡ length bs = length-ctr_blocks n 2 ks nonce bs hk h in
    ap (λ k. ctr_blocks ((k + 15) / 16) 2 ks nonce (ctr_blocks n 2 ks nonce bs)) l ∙ ctr_blocks_twice n 2 ks nonce bs hk hb h

-- what is sealed is as long as the text, its tag sixteen, and it opens
pub length_ciphertext : (key nonce aad t : List ℕ) → length key ≡ 32 → length (seal key nonce aad t).ciphertext ≡ length t
length_ciphertext key nonce aad t lk = length-ctr_blocks ((length t + 15) / 16) 2 (round_keys key) nonce t (length-round_keys key lk) (omega arith)

length-tag_of : (ks nonce aad c : List ℕ) → length ks ≡ 240 → length (tag_of ks nonce aad c) ≡ 16
length-tag_of ks nonce aad c lk =
    let m : List ℕ = zero_padded aad ++ (zero_padded c ++ (to_bytes 8 (8 * length aad) ++ to_bytes 8 (8 * length c))) in
    let h : ℕ = ghash (length m / 16) (of_bytes (aes ks (repeat 16 0))) 0 m in
    let a = length-to_bytes 16 h in
    let b = length-aes ks (nonce ++ to_bytes 4 1) lk in
    length-xor (to_bytes 16 h) (aes ks (nonce ++ to_bytes 4 1)) (omega arith) ∙ a

pub length_tag : (key nonce aad t : List ℕ) → length key ≡ 32 → length (seal key nonce aad t).tag ≡ 16
length_tag key nonce aad t lk = length-tag_of (round_keys key) nonce aad (ctr (round_keys key) nonce t) (length-round_keys key lk)

pub unseal-seal : (key nonce aad t : List ℕ) → length key ≡ 32 → all_bytes t ≡ true → unseal key nonce aad (seal key nonce aad t) ≡ t ∷ []
unseal-seal key nonce aad t lk bt =
    let ks : List ℕ = round_keys key in
    let c : List ℕ = ctr ks nonce t in
    pick_true (bytes_eq (tag_of ks nonce aad c) (tag_of ks nonce aad c)) _ _ (bytes_eq_refl (tag_of ks nonce aad c)) ∙ ap (λ xs. xs ∷ []) (ctr_twice ks nonce t (length-round_keys key lk) bt)

pub open_undoes_seal : OpenUndoesSeal
unfolding OpenUndoesSeal
open_undoes_seal key nonce aad text bk lk bn ln ba bt = unseal-seal key nonce aad text lk bt
