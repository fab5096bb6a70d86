-- How long fields, pairs, data keys and headers are.
use Rattle.std.proofs.Common.{◌≡◌, ℕ, suc, ◌+◌, ◌*◌, ◌<◌, ◌≤◌, Bool, true, false, cond, ◌&&◌, ltb, leb, ◌⊎◌, List, [], ◌∷◌, ◌++◌, length, Some, None, Option, sym, refl, ap, ◌∙◌, arith, length-append}
use Rattle.std.proofs.lemmas.Bool.{lt-ltb, le-leb, and_right, and_from, and_parts, leb-true, cond-true, cond-false}
use Rattle.std.proofs.lemmas.Bool.Decides.{nat_tests}
use Rattle.octets.specs.Bytes.{to_bytes}
use Rattle.octets.proofs.Numbers.{length-to_bytes}
use Rattle.format.specs.Request as Rq
use Rattle.format.specs.Request.{field, pairs_bytes, short_pairs, data_keys_bytes, short_data_keys}
use Rattle.format.specs.Header as Hd
use Rattle.format.specs.Header.{context_bytes, header_bytes}
use Rattle.header.specs.Models.{pairs, data_keys}
use Rattle.header.specs.Checked.{context_length, data_keys_length}
use Rattle.header.specs.declared.request.Pair.{Pair}
use Rattle.header.specs.declared.request.EncryptedDataKey.{EncryptedDataKey}

pub length-field : (t : List ℕ) → length (field t) ≡ 2 + length t
length-field t = length-append (to_bytes 2 (length t)) t ∙ ap (λ n. n + length t) (length-to_bytes 2 (length t))

pub length_pairs : (p : Rq.Pair) (ps : List Rq.Pair) → length (pairs_bytes (p ∷ ps)) ≡ 4 + length p.name + length p.value + length (pairs_bytes ps)
unfolding pairs_bytes
length_pairs p ps =
    omega (arith, length-append (field p.name) (field p.value ++ pairs_bytes ps), length-append (field p.value) (pairs_bytes ps), length-field p.name, length-field p.value)

pub length-pairs_model : (ps : List Pair) → length (pairs ps) ≡ length ps
length-pairs_model [] = refl
length-pairs_model (p ∷ ps) = ap suc (length-pairs_model ps)

-- a context of none, and of some
pub context_none : (ps : List Pair) → length ps ≡ 0 → length (context_bytes (pairs ps)) ≡ 2
unfolding context_bytes
context_none [] h = refl
context_none (p ∷ ps) h = absurd (omega arith)

pub context_some : (ps : List Pair) → (length ps ≡ 0 → ⊥) → length (context_bytes (pairs ps)) ≡ 4 + length (pairs_bytes (pairs ps))
unfolding context_bytes
context_some [] h = absurd (h refl)
context_some (p ∷ ps) h =
    let all = to_bytes 2 (suc (length (pairs ps))) ++ pairs_bytes (pairs (p ∷ ps)) in
    omega (arith, length-field all, length-append (to_bytes 2 (suc (length (pairs ps)))) (pairs_bytes (pairs (p ∷ ps))), length-to_bytes 2 (suc (length (pairs ps))))

pub context_short : (ps : List Pair) → length (context_bytes (pairs ps)) ≤ 4 + length (pairs_bytes (pairs ps))
context_short [] = omega (arith, context_none [] refl)
context_short (p ∷ ps) = omega (arith, context_some (p ∷ ps) (λ z. omega arith))

pub length-data_keys_model : (ks : List EncryptedDataKey) → length (data_keys ks) ≡ length ks
length-data_keys_model [] = refl
length-data_keys_model (k ∷ ks) = ap suc (length-data_keys_model ks)

wrong_count : (n : ℕ) → (n ≡ 0) ⊎ (65535 < n) → (ltb 0 n && leb n 65535) ≡ false
wrong_count n e = grind (arith, nat_tests)

pub data_keys_none_or_many : (ks : List EncryptedDataKey) → (length ks ≡ 0) ⊎ (65535 < length ks) → None ≡ data_keys_length (data_keys ks)
data_keys_none_or_many ks e = simp (length-data_keys_model, wrong_count (length ks) e)

pub data_keys_part_long : (ks : List Rq.EncryptedDataKey) → short_data_keys ks ≡ false → None ≡ data_keys_length ks
data_keys_part_long ks e = sym (cond-false _ _ _ (and_right _ _ e))

pub data_keys_fit : (ks : List EncryptedDataKey) (n : ℕ) → 0 < length ks → length ks ≤ 65535 → short_data_keys (data_keys ks) ≡ true → n ≡ length (data_keys_bytes (data_keys ks)) → Some n ≡ data_keys_length (data_keys ks)
data_keys_fit ks n p q s e =
    let l = length-data_keys_model ks in
    ap Some e ∙ sym (cond-true _ _ _ (and_from _ _ (and_from _ _ (lt-ltb 0 (length (data_keys ks)) (omega arith)) (le-leb (length (data_keys ks)) 65535 (omega arith))) s))

-- how long a header is
abbrev pub from_frame_length : Hd.Header → List ℕ
from_frame_length h = to_bytes 4 h.frame_length ++ h.commitment

abbrev pub from_count : Hd.Header → List ℕ
from_count h = to_bytes 2 (length h.encrypted_data_keys) ++ (data_keys_bytes h.encrypted_data_keys ++ ((2 ∷ []) ++ from_frame_length h))

pub length_header : (h : Hd.Header) → length (header_bytes h) ≡ 3 + (length h.id + (length (context_bytes h.context) + (2 + (length (data_keys_bytes h.encrypted_data_keys) + (1 + (4 + length h.commitment))))))
length_header h =
    omega (
      arith,
      length-append h.id (context_bytes h.context ++ from_count h),
      length-append (context_bytes h.context) (from_count h),
      length-append (to_bytes 2 (length h.encrypted_data_keys)) (data_keys_bytes h.encrypted_data_keys ++ ((2 ∷ []) ++ from_frame_length h)),
      length-append (data_keys_bytes h.encrypted_data_keys) ((2 ∷ []) ++ from_frame_length h),
      length-append (to_bytes 4 h.frame_length) h.commitment,
      length-to_bytes 2 (length h.encrypted_data_keys),
      length-to_bytes 4 h.frame_length,
    )

-- what an answer of a length says
abbrev given_or : {A : Type 0} → A → Option A → A
given_or d (Some a) = a
given_or d None = d

abbrev is_given : {A : Type 0} → Option A → ℕ
is_given (Some a) = 1
is_given None = 0

pub some_cond : {A : Type 0} (b : Bool) (x a : A) → Some a ≡ cond b (Some x) None → (b ≡ true) × (a ≡ x)
some_cond true x a e = (refl, ap (λ o. given_or x o) e)
some_cond false x a e = absurd (let z : ◌≡◌ {A = ℕ} 1 0 = ap (λ o. is_given o) e in omega arith)

pub record ContextTold (ps : List Rq.Pair) (n : ℕ) : Type 0 where
  pub long : n ≡ length (pairs_bytes ps)
  pub fits : n ≤ 65533
  pub short : short_pairs ps ≡ true

pub context_told : (ps : List Rq.Pair) (n : ℕ) → Some n ≡ context_length ps → ContextTold ps n
context_told ps n e =
    let s = some_cond _ _ _ e in
    let b = and_parts _ _ s.0 in
    let l : 2 + length (pairs_bytes ps) ≤ 65535 = leb-true _ _ b.1 in
    let e : n ≡ length (pairs_bytes ps) = s.1 in
    record { long = e; fits = omega arith; short = (and_parts _ _ b.0).1 }

pub record DataKeysTold (ks : List Rq.EncryptedDataKey) (n : ℕ) : Type 0 where
  pub long : n ≡ length (data_keys_bytes ks)
  pub fits : n ≤ 12884901885
  pub few : length ks ≤ 65535
  pub short : short_data_keys ks ≡ true

data_keys_small : (ks : List Rq.EncryptedDataKey) → short_data_keys ks ≡ true → length (data_keys_bytes ks) ≤ 196611 * length ks
unfolding data_keys_bytes short_data_keys
data_keys_small [] e = omega arith
data_keys_small (k ∷ ks) e =
    let s = and_parts _ _ e in
    let t = and_parts _ _ s.0 in
    let u = and_parts _ _ t.1 in
    let a : length k.provider_id ≤ 65535 = leb-true _ _ t.0 in
    let b : length k.provider_info ≤ 65535 = leb-true _ _ u.0 in
    let c : length k.ciphertext ≤ 65535 = leb-true _ _ u.1 in
    let m : length (data_keys_bytes ks) ≤ 196611 * length ks = data_keys_small ks s.1 in
    let r : List ℕ = data_keys_bytes ks in
    let p : List ℕ = field k.provider_id in
    let i : List ℕ = field k.provider_info in
    let w : List ℕ = field k.ciphertext in
    omega (arith, length-append p (i ++ (w ++ r)), length-append i (w ++ r), length-append w r, length-field k.provider_id, length-field k.provider_info, length-field k.ciphertext)

pub data_keys_bounded : (ks : List EncryptedDataKey) → length ks ≤ 65535 → short_data_keys (data_keys ks) ≡ true → length (data_keys_bytes (data_keys ks)) ≤ 12884901885
data_keys_bounded ks l s =
    let m : length (data_keys_bytes (data_keys ks)) ≤ 196611 * length (data_keys ks) = data_keys_small (data_keys ks) s in
    let n = length-data_keys_model ks in
    omega arith

pub data_keys_told : (ks : List Rq.EncryptedDataKey) (n : ℕ) → Some n ≡ data_keys_length ks → DataKeysTold ks n
data_keys_told ks n e =
    let s = some_cond _ _ _ e in
    let b = and_parts _ _ s.0 in
    let l : length ks ≤ 65535 = leb-true _ _ (and_parts _ _ b.0).1 in
    let m : length (data_keys_bytes ks) ≤ 196611 * length ks = data_keys_small ks b.1 in
    let e : n ≡ length (data_keys_bytes ks) = s.1 in
    record { long = e; fits = omega arith; few = l; short = b.1 }
