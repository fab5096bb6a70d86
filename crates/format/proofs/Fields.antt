-- Fields, pairs, encrypted data keys and contexts are written in one way: equal bytes, equal parts.
use Rattle.std.proofs.Common.{◌≡◌, ℕ, suc, ◌+◌, ◌<◌, ◌≤◌, true, ◌&&◌, List, [], ◌∷◌, ◌++◌, length, sym, refl, ap, ◌∙◌, append_assoc, arith, length-append}
use Rattle.std.proofs.lemmas.Bool.{and_parts, leb-true}
use Rattle.octets.specs.Bytes.{of_bytes, to_bytes}
use Rattle.octets.proofs.Lists.{halves}
use Rattle.octets.proofs.Numbers.{length-to_bytes, of_to_bytes, to_bytes_injective}
use Rattle.format.specs.Header.{context_bytes}
use Rattle.format.specs.Request.{EncryptedDataKey, Pair, data_keys_bytes, field, fits_field, pairs_bytes, short_data_keys, short_pairs}

-- numbers of two and of four bytes
pub of_two : (n : ℕ) → n ≤ 65535 → of_bytes (to_bytes 2 n) ≡ n
of_two n h = of_to_bytes 2 n (omega arith)

pub of_four : (n : ℕ) → n < 4294967296 → of_bytes (to_bytes 4 n) ≡ n
of_four n h = of_to_bytes 4 n (omega arith)

two_injective : (a b : ℕ) → a ≤ 65535 → b ≤ 65535 → to_bytes 2 a ≡ to_bytes 2 b → a ≡ b
two_injective a b ha hb e = to_bytes_injective 2 a b (omega arith) (omega arith) e

pub two_parts : (a b : ℕ) (x y : List ℕ) → a ≤ 65535 → b ≤ 65535 → to_bytes 2 a ++ x ≡ to_bytes 2 b ++ y → (a ≡ b) × (x ≡ y)
two_parts a b x y ha hb e =
    let p = halves (to_bytes 2 a) (to_bytes 2 b) x y (length-to_bytes 2 a ∙ sym (length-to_bytes 2 b)) e in
    (two_injective a b ha hb p.0, p.1)

pub field_parts : (a b x y : List ℕ) → length a ≤ 65535 → length b ≤ 65535 → field a ++ x ≡ field b ++ y → (a ≡ b) × (x ≡ y)
field_parts a b x y ha hb e =
    let f : to_bytes 2 (length a) ++ (a ++ x) ≡ to_bytes 2 (length b) ++ (b ++ y) =
    sym (append_assoc (to_bytes 2 (length a)) a x) ∙ (e ∙ append_assoc (to_bytes 2 (length b)) b y) in
    let p = two_parts (length a) (length b) (a ++ x) (b ++ y) ha hb f in
    halves a b x y p.0 p.1

fits_length : (a : List ℕ) → fits_field a ≡ true → length a ≤ 65535
fits_length a e = leb-true (length a) 65535 e

pub pairs_parts : (ps qs : List Pair) (x y : List ℕ) → short_pairs ps ≡ true → short_pairs qs ≡ true → length ps ≡ length qs → pairs_bytes ps ++ x ≡ pairs_bytes qs ++ y
    → (ps ≡ qs) × (x ≡ y)
unfolding pairs_bytes short_pairs
pairs_parts [] [] x y hp hq l e = (refl, e)
pairs_parts [] (q ∷ qs) x y hp hq l e = absurd (omega arith)
pairs_parts (p ∷ ps) [] x y hp hq l e = absurd (omega arith)
pairs_parts (p ∷ ps) (q ∷ qs) x y hp hq l e =
    let a = and_parts (fits_field p.name && fits_field p.value) (short_pairs ps) hp in
    let a1 = and_parts (fits_field p.name) (fits_field p.value) a.0 in
    let b = and_parts (fits_field q.name && fits_field q.value) (short_pairs qs) hq in
    let b1 = and_parts (fits_field q.name) (fits_field q.value) b.0 in
    let k = field_parts p.name q.name ((field p.value ++ pairs_bytes ps) ++ x) ((field q.value ++ pairs_bytes qs) ++ y) (fits_length p.name a1.0) (fits_length q.name b1.0)
    (sym (append_assoc (field p.name) (field p.value ++ pairs_bytes ps) x) ∙ (e ∙ append_assoc (field q.name) (field q.value ++ pairs_bytes qs) y)) in
    let v = field_parts p.value q.value (pairs_bytes ps ++ x) (pairs_bytes qs ++ y) (fits_length p.value a1.1) (fits_length q.value b1.1)
    (sym (append_assoc (field p.value) (pairs_bytes ps) x) ∙ (k.1 ∙ append_assoc (field q.value) (pairs_bytes qs) y)) in
    let r = pairs_parts ps qs x y a.1 b.1 (omega arith) v.1 in
    let ek = k.0 in
    let ev = v.0 in
    let er = r.0 in
    ((λ i. record { name = ek i; value = ev i } ∷ er i), r.1)

pub data_keys_parts : (ps qs : List EncryptedDataKey) (x y : List ℕ) → short_data_keys ps ≡ true → short_data_keys qs ≡ true → length ps ≡ length qs → data_keys_bytes ps ++ x ≡ data_keys_bytes qs ++ y
    → (ps ≡ qs) × (x ≡ y)
unfolding data_keys_bytes short_data_keys
data_keys_parts [] [] x y hp hq l e = (refl, e)
data_keys_parts [] (q ∷ qs) x y hp hq l e = absurd (omega arith)
data_keys_parts (p ∷ ps) [] x y hp hq l e = absurd (omega arith)
data_keys_parts (p ∷ ps) (q ∷ qs) x y hp hq l e =
    let a = and_parts (fits_field p.provider_id && (fits_field p.provider_info && fits_field p.ciphertext)) (short_data_keys ps) hp in
    let a1 = and_parts (fits_field p.provider_id) (fits_field p.provider_info && fits_field p.ciphertext) a.0 in
    let a2 = and_parts (fits_field p.provider_info) (fits_field p.ciphertext) a1.1 in
    let b = and_parts (fits_field q.provider_id && (fits_field q.provider_info && fits_field q.ciphertext)) (short_data_keys qs) hq in
    let b1 = and_parts (fits_field q.provider_id) (fits_field q.provider_info && fits_field q.ciphertext) b.0 in
    let b2 = and_parts (fits_field q.provider_info) (fits_field q.ciphertext) b1.1 in
    let pi : List ℕ = field p.provider_info ++ (field p.ciphertext ++ data_keys_bytes ps) in
    let qi : List ℕ = field q.provider_info ++ (field q.ciphertext ++ data_keys_bytes qs) in
    let pw : List ℕ = field p.ciphertext ++ data_keys_bytes ps in
    let qw : List ℕ = field q.ciphertext ++ data_keys_bytes qs in
    let k = field_parts p.provider_id q.provider_id (pi ++ x) (qi ++ y) (fits_length p.provider_id a1.0) (fits_length q.provider_id b1.0)
    (sym (append_assoc (field p.provider_id) pi x) ∙ (e ∙ append_assoc (field q.provider_id) qi y)) in
    let v = field_parts p.provider_info q.provider_info (pw ++ x) (qw ++ y) (fits_length p.provider_info a2.0) (fits_length q.provider_info b2.0)
    (sym (append_assoc (field p.provider_info) pw x) ∙ (k.1 ∙ append_assoc (field q.provider_info) qw y)) in
    let w = field_parts p.ciphertext q.ciphertext (data_keys_bytes ps ++ x) (data_keys_bytes qs ++ y) (fits_length p.ciphertext a2.1) (fits_length q.ciphertext b2.1)
    (sym (append_assoc (field p.ciphertext) (data_keys_bytes ps) x) ∙ (v.1 ∙ append_assoc (field q.ciphertext) (data_keys_bytes qs) y)) in
    let r = data_keys_parts ps qs x y a.1 b.1 (omega arith) w.1 in
    let ek = k.0 in
    let ev = v.0 in
    let ew = w.0 in
    let er = r.0 in
    ((λ i. record { provider_id = ek i; provider_info = ev i; ciphertext = ew i } ∷ er i), r.1)

-- a context is a field, of nothing or of the pairs
abbrev pub context_body : List Pair → List ℕ
context_body [] = []
context_body (p ∷ ps) = to_bytes 2 (suc (length ps)) ++ pairs_bytes (p ∷ ps)

pub context_is : (ps : List Pair) → context_bytes ps ≡ field (context_body ps)
unfolding context_bytes to_bytes
context_is [] = refl
context_is (p ∷ ps) = refl

pub count_pairs : (ps : List Pair) → length ps ≤ length (pairs_bytes ps)
unfolding pairs_bytes
count_pairs [] = omega arith
count_pairs (p ∷ ps) =
    let i = count_pairs ps in
    let a = length-append (field p.name) (field p.value ++ pairs_bytes ps) in
    let b = length-append (field p.value) (pairs_bytes ps) in
    let d = length-append (to_bytes 2 (length p.name)) p.name in
    let f = length-to_bytes 2 (length p.name) in
    omega arith

pub length_context_body : (p : Pair) (ps : List Pair) → length (context_body (p ∷ ps)) ≡ 2 + length (pairs_bytes (p ∷ ps))
length_context_body p ps = let a = length-to_bytes 2 (suc (length ps)) in length-append (to_bytes 2 (suc (length ps))) (pairs_bytes (p ∷ ps)) ∙ omega arith

context_body_injective : (ps qs : List Pair) → short_pairs ps ≡ true → short_pairs qs ≡ true → 2 + length (pairs_bytes ps) ≤ 65535 → 2 + length (pairs_bytes qs) ≤ 65535 → context_body ps ≡ context_body qs → ps ≡ qs
context_body_injective [] [] hp hq lp lq e = refl
context_body_injective [] (q ∷ qs) hp hq lp lq e = absurd (let l = length_context_body q qs in let m : length (context_body (q ∷ qs)) ≡ 0 = ap length (sym e) in omega arith)
context_body_injective (p ∷ ps) [] hp hq lp lq e = absurd (let l = length_context_body p ps in let m : length (context_body (p ∷ ps)) ≡ 0 = ap length e in omega arith)
context_body_injective (p ∷ ps) (q ∷ qs) hp hq lp lq e =
    let cp = count_pairs (p ∷ ps) in
    let cq = count_pairs (q ∷ qs) in
    let a = two_parts (suc (length ps)) (suc (length qs)) (pairs_bytes (p ∷ ps)) (pairs_bytes (q ∷ qs)) (omega arith) (omega arith) e in
    (pairs_parts (p ∷ ps) (q ∷ qs) [] [] hp hq a.0 (ap (λ xs. xs ++ []) a.1)).0

pub context_body_short : (ps : List Pair) → 2 + length (pairs_bytes ps) ≤ 65535 → length (context_body ps) ≤ 65535
context_body_short [] h = omega arith
context_body_short (p ∷ ps) h = let l = length_context_body p ps in omega arith

pub context_parts : (ps qs : List Pair) (x y : List ℕ) → short_pairs ps ≡ true → short_pairs qs ≡ true → 2 + length (pairs_bytes ps) ≤ 65535 → 2 + length (pairs_bytes qs) ≤ 65535
    → context_bytes ps ++ x ≡ context_bytes qs ++ y → (ps ≡ qs) × (x ≡ y)
context_parts ps qs x y hp hq lp lq e =
    let f : field (context_body ps) ++ x ≡ field (context_body qs) ++ y = ap (λ xs. xs ++ x) (sym (context_is ps)) ∙ (e ∙ ap (λ xs. xs ++ y) (context_is qs)) in
    let a = field_parts (context_body ps) (context_body qs) x y (context_body_short ps lp) (context_body_short qs lq) f in
    (context_body_injective ps qs hp hq lp lq a.0, a.1)
