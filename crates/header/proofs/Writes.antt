-- Parts of a header written one after another are the whole.
use Rattle.std.proofs.Common.{◌≡◌, ℕ, suc, ◌+◌, ◌*◌, ◌<◌, ◌≤◌, List, [], ◌∷◌, ◌++◌, length, sym, refl, ap, ◌∙◌, append_assoc, ap₂, arith, length-append, true, subst}
use Rattle.std.specs.List.{flat_map}
use Rattle.std.proofs.lemmas.Bool.{eq-eqb, ne_eqb, le-leb, lt-leb, and_parts, leb-true}
use Rattle.octets.specs.Bits.{pick}
use Rattle.octets.specs.Bytes.{to_bytes}
use Rattle.octets.specs.Splice.{Written}
use Rattle.octets.proofs.Numbers.{length-to_bytes}
use Rattle.octets.proofs.Splice.{spliced_none, written_then}
use Rattle.format.specs.Request as Rq
use Rattle.format.specs.Request.{field, pairs_bytes, data_keys_bytes}
use Rattle.format.specs.Header.{context_bytes, header_bytes}
use Rattle.header.specs.Models.{pair, pairs, data_keys, request_with}
use Rattle.header.specs.Checked.{short_data_key, header_refusal}
use Rattle.header.specs.Written.{pair_bytes, short_pair, data_key_bytes, asked_bytes, write_refusal}
use Rattle.header.specs.Asked.{header_of}
use Rattle.header.specs.declared.asked.Header.{Header}
use Rattle.header.specs.declared.request.Pair.{Pair}
use Rattle.header.specs.declared.request.HeaderRequest.{HeaderRequest}
use Rattle.header.proofs.Parts.{pairs_flat}
use Rattle.header.proofs.Lengths.{length-field, length_pairs, length-pairs_model, length-data_keys_model}

-- a write after another, and of nothing
pub written_step : (all one rest old mid out : List ℕ) (at n m : ℕ) → all ≡ one ++ rest → Written old at one n mid → Written mid n rest m out → Written old at all m out
written_step all one rest old mid out at n m e p q = subst (λ l. Written old at l m out) (sym e) (written_then old mid out one rest at n m p q)

pub written_end : (rest out : List ℕ) (to : ℕ) → rest ≡ [] → to ≤ length out → Written out to rest to out
written_end rest out to e h =
    let none : Written out to [] to out = record { room = omega arith; next = omega arith; holds = sym (spliced_none out to) } in
    subst (λ l. Written out to l to out) (sym e) none

-- pairs
pub record PairParts (p : Rq.Pair) : Type 0 where
  pub name : length p.name ≤ 65535
  pub value : length p.value ≤ 65535
  pub long : length (pair_bytes p) ≡ (2 + length p.name) + (2 + length p.value)

pub pair_parts : (p : Rq.Pair) → short_pair p ≡ true → PairParts p
pair_parts p e =
    let s = and_parts _ _ e in
    record { name = leb-true _ _ s.0; value = leb-true _ _ s.1; long = omega (arith, length-append (field p.name) (field p.value), length-field p.name, length-field p.value) }

pub few_pairs : (ps : List Pair) → 4 * length ps ≤ length (pairs_bytes (pairs ps))
few_pairs [] = omega arith
few_pairs (p ∷ ps) = omega (arith, few_pairs ps, length_pairs (pair p) (pairs ps))

-- a context of none, and of some
pub context_empty : (ps : List Pair) → length ps ≡ 0 → to_bytes 2 0 ≡ context_bytes (pairs ps)
unfolding context_bytes to_bytes
context_empty [] h = refl
context_empty (p ∷ ps) h = absurd (omega arith)

pub context_split_flat : (ps : List Pair) (n : ℕ) → n ≡ length (pairs_bytes (pairs ps)) → (length ps ≡ 0 → ⊥)
    → to_bytes 2 (2 + n) ++ (to_bytes 2 (length ps) ++ flat_map (λ p. pair_bytes (pair p)) ps) ≡ context_bytes (pairs ps)
unfolding context_bytes
context_split_flat [] n l h = absurd (h refl)
context_split_flat (p ∷ ps) n l h =
    let count = to_bytes 2 (suc (length (pairs ps))) in
    let e = length-pairs_model ps in
    let long : 2 + n ≡ length (count ++ pairs_bytes (pairs (p ∷ ps))) = omega (arith, length-append count (pairs_bytes (pairs (p ∷ ps))), length-to_bytes 2 (suc (length (pairs ps)))) in
    ap (λ l. to_bytes 2 (2 + n) ++ (to_bytes 2 (suc (length ps)) ++ l)) (pairs_flat (p ∷ ps))
    ∙ ap₂ (λ j k. to_bytes 2 j ++ (to_bytes 2 (suc k) ++ pairs_bytes (pairs (p ∷ ps)))) long (sym e)

pub context_split : (ps : List Pair) → (length ps ≡ 0 → ⊥) → to_bytes 2 (2 + length (pairs_bytes (pairs ps))) ++ (to_bytes 2 (length ps) ++ pairs_bytes (pairs ps)) ≡ context_bytes (pairs ps)
context_split ps h = ap (λ l. to_bytes 2 (2 + length (pairs_bytes (pairs ps))) ++ (to_bytes 2 (length ps) ++ l)) (sym (pairs_flat ps)) ∙ context_split_flat ps _ refl h

-- data keys
pub record DataKeyParts (k : Rq.EncryptedDataKey) : Type 0 where
  pub id : length k.provider_id ≤ 65535
  pub info : length k.provider_info ≤ 65535
  pub ciphertext : length k.ciphertext ≤ 65535
  pub long : length (data_key_bytes k) ≡ (2 + length k.provider_id) + ((2 + length k.provider_info) + (2 + length k.ciphertext))

pub data_key_parts : (k : Rq.EncryptedDataKey) → short_data_key k ≡ true → DataKeyParts k
data_key_parts k e =
    let s = and_parts _ _ e in
    let t = and_parts _ _ s.1 in
    record {
      id = leb-true _ _ s.0;
      info = leb-true _ _ t.0;
      ciphertext = leb-true _ _ t.1;
      long = omega (arith, length-append (field k.provider_id) (field k.provider_info ++ field k.ciphertext), length-append (field k.provider_info) (field k.ciphertext), length-field k.provider_id, length-field k.provider_info, length-field k.ciphertext);
    }

-- a header's parts as they are written
pub as_written : (h : Header) (k : List ℕ)
    → (2 ∷ (4 ∷ (120 ∷ []))) ++ (h.id ++ (context_bytes (pairs h.context.pairs.now) ++ ((to_bytes 2 (length h.data_keys.keys.now) ++ data_keys_bytes (data_keys h.data_keys.keys.now)) ++ ((2 ∷ []) ++ (to_bytes 4 h.frame_length ++ k))))) ≡ header_bytes (header_of h k)
as_written h k =
    let keys = data_keys_bytes (data_keys h.data_keys.keys.now) in
    let rest = (2 ∷ []) ++ (to_bytes 4 h.frame_length ++ k) in
    ap (λ l. (2 ∷ (4 ∷ (120 ∷ []))) ++ (h.id ++ (context_bytes (pairs h.context.pairs.now) ++ l)))
    (append_assoc (to_bytes 2 (length h.data_keys.keys.now)) keys rest ∙ ap (λ n. to_bytes 2 n ++ (keys ++ rest)) (sym (length-data_keys_model h.data_keys.keys.now)))

-- why a header isn't written
pub not_written_refused : (h : HeaderRequest) (c : List ℕ) (room n : ℕ) → n ≡ header_refusal (request_with [] h []) → (n ≡ 0 → ⊥) → n ≡ write_refusal h c room
unfolding pick
not_written_refused h c room n e z = e ∙ simp (ne_eqb (header_refusal (request_with [] h [])) 0 (λ w. z (e ∙ w)))

pub not_written_short : (h : HeaderRequest) (c : List ℕ) (room : ℕ) → 0 ≡ header_refusal (request_with [] h []) → room < length (asked_bytes h c) → 1 ≡ write_refusal h c room
unfolding pick
not_written_short h c room e l = simp (eq-eqb (header_refusal (request_with [] h [])) 0 (sym e), lt-leb (length (asked_bytes h c)) room l)

pub is_written : (h : HeaderRequest) (c : List ℕ) (room : ℕ) → 0 ≡ header_refusal (request_with [] h []) → length (asked_bytes h c) ≤ room → 0 ≡ write_refusal h c room
unfolding pick
is_written h c room e l = simp (eq-eqb (header_refusal (request_with [] h [])) 0 (sym e), le-leb (length (asked_bytes h c)) room l)
