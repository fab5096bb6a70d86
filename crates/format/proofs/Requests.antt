-- Requests that aren't refused, what is known of them, and that two are the same or not.
use Rattle.std.proofs.Common.{◌≡◌, ℕ, suc, ◌+◌, ◌*◌, ◌<◌, ◌≤◌, Bool, true, false, ◌&&◌, eqb, ltb, leb, List, [], ◌∷◌, length, sym, refl, ap, subst, inl, inr, arith}
use mathlib.Core.List.{List-discrete}
use mathlib.Core.HLevel.{Discrete}
use native.Mathlib.Decide.{ℕ_discrete}
use Rattle.std.proofs.lemmas.Bool.{and_parts, eqb-true, leb-true, ltb-true}
use Rattle.octets.specs.Bits.{pick}
use Rattle.octets.specs.Bytes.{all_bytes}
use Rattle.format.specs.Header.{header_of}
use Rattle.format.specs.Request.{EncryptedDataKey, Pair, Request, all_bytes_data_keys, all_bytes_pairs, end_marker, pairs_bytes, rising, seal_refusal, short_data_keys, short_pairs, well_formed}
use Rattle.format.specs.Sealed.{Among, all_good}
use Rattle.format.proofs.Headers.{Fits}

-- a request that isn't refused
pub record Good (r : Request) : Type 0 where
  pub fits : Fits (header_of r)
  pub text_bytes : all_bytes r.text ≡ true
  pub text_short : length r.text < 9223372036854775808
  pub rises : rising r.context ≡ true
  pub some_keys : 0 < length r.encrypted_data_keys
  pub in_frames : length r.text ≤ 4294967295 * r.frame_length

picked_zero : (b : Bool) (x y : ℕ) → pick b x (suc y) ≡ 0 → (b ≡ true) × (x ≡ 0)
unfolding pick
picked_zero true x y e = (refl, e)
picked_zero false x y e = absurd (omega arith)

pub good_is : (r : Request) → well_formed r ≡ true → seal_refusal r ≡ 0 → Good r
unfolding end_marker
good_is r re tu =
    let a = picked_zero ((eqb (length r.key) 32 && eqb (length r.id) 32) && (ltb 0 r.frame_length && leb r.frame_length end_marker)) _ 1 tu in
    let a1 = and_parts (eqb (length r.key) 32 && eqb (length r.id) 32) (ltb 0 r.frame_length && leb r.frame_length end_marker) a.0 in
    let a2 = and_parts (eqb (length r.key) 32) (eqb (length r.id) 32) a1.0 in
    let a3 = and_parts (ltb 0 r.frame_length) (leb r.frame_length end_marker) a1.1 in
    let b = picked_zero ((rising r.context && short_pairs r.context) && leb (2 + length (pairs_bytes r.context)) 65535) _ 2 a.1 in
    let b1 = and_parts (rising r.context && short_pairs r.context) (leb (2 + length (pairs_bytes r.context)) 65535) b.0 in
    let b2 = and_parts (rising r.context) (short_pairs r.context) b1.0 in
    let d = picked_zero ((ltb 0 (length r.encrypted_data_keys) && leb (length r.encrypted_data_keys) 65535) && short_data_keys r.encrypted_data_keys) _ 3 b.1 in
    let d1 = and_parts (ltb 0 (length r.encrypted_data_keys) && leb (length r.encrypted_data_keys) 65535) (short_data_keys r.encrypted_data_keys) d.0 in
    let d2 = and_parts (ltb 0 (length r.encrypted_data_keys)) (leb (length r.encrypted_data_keys) 65535) d1.0 in
    let f = picked_zero (leb (length r.text) (end_marker * r.frame_length) && ltb (length r.text) 9223372036854775808) _ 4 d.1 in
    let f1 = and_parts (leb (length r.text) (end_marker * r.frame_length)) (ltb (length r.text) 9223372036854775808) f.0 in
    let g = and_parts (all_bytes r.key && all_bytes r.id) ((all_bytes_pairs r.context && all_bytes_data_keys r.encrypted_data_keys) && (all_bytes r.text && ltb r.frame_length 4294967296)) re in
    let g1 = and_parts (all_bytes_pairs r.context && all_bytes_data_keys r.encrypted_data_keys) (all_bytes r.text && ltb r.frame_length 4294967296) g.1 in
    let g2 = and_parts (all_bytes r.text) (ltb r.frame_length 4294967296) g1.1 in
    record {
      fits = record {
        id_long = eqb-true (length r.id) 32 a2.1;
        pairs_short = b2.1;
        pairs_fit = leb-true (2 + length (pairs_bytes r.context)) 65535 b1.1;
        few_keys = leb-true (length r.encrypted_data_keys) 65535 d2.1;
        data_keys_short = d1.1;
        low = ltb-true 0 r.frame_length a3.0;
        high = ltb-true r.frame_length 4294967296 g2.1;
      };
      text_bytes = g2.0;
      text_short = ltb-true (length r.text) 9223372036854775808 f1.1;
      rises = b2.0;
      some_keys = ltb-true 0 (length r.encrypted_data_keys) d2.0;
      in_frames = leb-true (length r.text) (end_marker * r.frame_length) f1.0;
    }

pub good_among : (r : Request) (rs : List Request) → all_good rs ≡ true → Among r rs → Good r
unfolding all_good Among
good_among r [] g a = absurd a
good_among r (q ∷ qs) g (inl e) =
    let p = and_parts (well_formed q && eqb (seal_refusal q) 0) (all_good qs) g in
    let s = and_parts (well_formed q) (eqb (seal_refusal q) 0) p.0 in
    subst Good (sym e) (good_is q s.0 (eqb-true (seal_refusal q) 0 s.1))
good_among r (q ∷ qs) g (inr a) = good_among r qs (and_parts (well_formed q && eqb (seal_refusal q) 0) (all_good qs) g).1 a

-- the same request, or not
pair_discrete : Discrete Pair
pair_discrete p q = go (List-discrete ℕ_discrete p.name q.name) (List-discrete ℕ_discrete p.value q.value)
  where
    go : Dec (p.name ≡ q.name) → Dec (p.value ≡ q.value) → Dec (p ≡ q)
    go (yes a) (yes b) = yes (λ i. record { name = a i; value = b i })
    go (yes a) (no n) = no (λ e. n (ap (λ r. r.value) e))
    go (no n) b = no (λ e. n (ap (λ r. r.name) e))

data_key_discrete : Discrete EncryptedDataKey
data_key_discrete p q = go (List-discrete ℕ_discrete p.provider_id q.provider_id) (List-discrete ℕ_discrete p.provider_info q.provider_info) (List-discrete ℕ_discrete p.ciphertext q.ciphertext)
  where
    go : Dec (p.provider_id ≡ q.provider_id) → Dec (p.provider_info ≡ q.provider_info) → Dec (p.ciphertext ≡ q.ciphertext) → Dec (p ≡ q)
    go (yes a) (yes b) (yes c) = yes (λ i. record { provider_id = a i; provider_info = b i; ciphertext = c i })
    go (yes a) (yes b) (no n) = no (λ e. n (ap (λ r. r.ciphertext) e))
    go (yes a) (no n) c = no (λ e. n (ap (λ r. r.provider_info) e))
    go (no n) b c = no (λ e. n (ap (λ r. r.provider_id) e))

pub request_discrete : Discrete Request
request_discrete p q =
    go (List-discrete ℕ_discrete p.key q.key) (List-discrete ℕ_discrete p.id q.id) (List-discrete pair_discrete p.context q.context)
    (List-discrete data_key_discrete p.encrypted_data_keys q.encrypted_data_keys) (ℕ_discrete p.frame_length q.frame_length) (List-discrete ℕ_discrete p.text q.text)
  where
    go : Dec (p.key ≡ q.key) → Dec (p.id ≡ q.id) → Dec (p.context ≡ q.context) → Dec (p.encrypted_data_keys ≡ q.encrypted_data_keys) → Dec (p.frame_length ≡ q.frame_length) → Dec (p.text ≡ q.text) → Dec (p ≡ q)
    go (yes a) (yes b) (yes c) (yes d) (yes f) (yes g) = yes (λ i. record { key = a i; id = b i; context = c i; encrypted_data_keys = d i; frame_length = f i; text = g i })
    go (yes a) (yes b) (yes c) (yes d) (yes f) (no n) = no (λ e. n (ap (λ r. r.text) e))
    go (yes a) (yes b) (yes c) (yes d) (no n) g = no (λ e. n (ap (λ r. r.frame_length) e))
    go (yes a) (yes b) (yes c) (no n) f g = no (λ e. n (ap (λ r. r.encrypted_data_keys) e))
    go (yes a) (yes b) (no n) d f g = no (λ e. n (ap (λ r. r.context) e))
    go (yes a) (no n) c d f g = no (λ e. n (ap (λ r. r.id) e))
    go (no n) b c d f g = no (λ e. n (ap (λ r. r.key) e))
