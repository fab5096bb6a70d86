-- A request's refusal by its parts: the key, what the header says, and the text.
use Rattle.std.proofs.Common.{◌≡◌, ℕ, ◌+◌, ◌<◌, ◌≤◌, Bool, true, false, ◌&&◌, eqb, ltb, leb, length, Some, sym, refl, ap, ◌∙◌, arith}
use Rattle.std.proofs.lemmas.Bool.{and_parts, and_from, eq-eqb, ne_eqb, eqb-true, lt-ltb, le-leb, ltb-true, leb-true}
use Rattle.octets.specs.Bits.{pick}
use Rattle.octets.proofs.Bits.{pick_true, pick_false}
use Rattle.format.specs.Request as Rq
use Rattle.format.specs.Request.{rising, short_pairs, pairs_bytes, short_data_keys, end_marker, seal_refusal}
use Rattle.header.specs.Checked.{context_length, data_keys_length, text_fits, header_refusal}
use Rattle.header.specs.Refusal.{refusal_number}
use Rattle.header.specs.declared.refusal.SealRefusal.{SealRefusal}
use Rattle.header.specs.declared.refusal.SealRefusal.TheVariants.{OutLength, KeyOrIdOrFrameLength, Context, EncryptedDataKeys, Text}
use Rattle.header.proofs.Lengths.{some_cond}

by_parts : (k i f b c d : Bool) → ◌≡◌ {A = ℕ} (pick ((k && i) && f) (pick b (pick c (pick d 0 5) 4) 3) 2) (pick k (pick (eqb (pick (i && f) (pick b (pick c 0 4) 3) 2) 0) (pick d 0 5) (pick (i && f) (pick b (pick c 0 4) 3) 2)) 2)
unfolding pick
by_parts false i f b c d = refl
by_parts true false f b c d = refl
by_parts true true false b c d = refl
by_parts true true true false c d = refl
by_parts true true true true false d = refl
by_parts true true true true true d = refl

pub refusal_by_parts : (r : Rq.Request) → seal_refusal r ≡ pick (eqb (length r.key) 32) (pick (eqb (header_refusal r) 0) (pick (text_fits (length r.text) r.frame_length) 0 5) (header_refusal r)) 2
refusal_by_parts r = by_parts _ _ _ _ _ _

-- the same, where the parts are known
pub refused_by_header : (r : Rq.Request) (n : ℕ) → length r.key ≡ 32 → n ≡ header_refusal r → (n ≡ 0 → ⊥) → n ≡ seal_refusal r
refused_by_header r n k e z =
    e ∙ sym (refusal_by_parts r ∙ pick_true _ _ _ (eq-eqb _ 32 k) ∙ pick_false _ _ _ (ne_eqb (header_refusal r) 0 (λ w. z (e ∙ w))))

pub refused_by_text : (r : Rq.Request) (b : Bool) → length r.key ≡ 32 → 0 ≡ header_refusal r → b ≡ text_fits (length r.text) r.frame_length → pick b 0 5 ≡ seal_refusal r
refused_by_text r b k e t =
    ap (λ v. pick v 0 5) t ∙ sym (refusal_by_parts r ∙ pick_true _ _ _ (eq-eqb _ 32 k) ∙ pick_true _ _ _ (eq-eqb (header_refusal r) 0 (sym e)))

pub numbers_positive : (e : SealRefusal) → refusal_number e ≡ 0 → ⊥
numbers_positive OutLength z = omega arith
numbers_positive KeyOrIdOrFrameLength z = omega arith
numbers_positive Context z = omega arith
numbers_positive EncryptedDataKeys z = omega arith
numbers_positive Text z = omega arith

three_pass : (a b c : Bool) → a ≡ true → b ≡ true → c ≡ true → ◌≡◌ {A = ℕ} 0 (pick a (pick b (pick c 0 4) 3) 2)
unfolding pick
three_pass a b c p q r = simp (p, q, r)

-- a header that passed its checks
pub header_passes : (r : Rq.Request) (n m : ℕ) → length r.id ≡ 32 → 0 < r.frame_length → r.frame_length ≤ 4294967295 → Some n ≡ context_length r.context → Some m ≡ data_keys_length r.encrypted_data_keys → 0 ≡ header_refusal r
unfolding end_marker
header_passes r n m i p q c d =
    three_pass _ _ _ (and_from _ _ (eq-eqb _ 32 i) (and_from _ _ (lt-ltb _ _ p) (le-leb _ _ q))) (some_cond _ _ _ c).0 (some_cond _ _ _ d).0

three_passed : (a b c : Bool) → ◌≡◌ {A = ℕ} 0 (pick a (pick b (pick c 0 4) 3) 2) → (a ≡ true) × (b ≡ true) × (c ≡ true)
unfolding pick
three_passed true true true e = (refl, refl, refl)
three_passed true true false e = absurd (omega arith)
three_passed true false c e = absurd (omega arith)
three_passed false b c e = absurd (omega arith)

-- and what is known of one
pub record Passed (r : Rq.Request) : Type 0 where
  pub id : length r.id ≡ 32
  pub frame_length : 0 < r.frame_length
  pub frame_length_fits : r.frame_length ≤ 4294967295
  pub rises : rising r.context ≡ true
  pub short_context : short_pairs r.context ≡ true
  pub context_fits : 2 + length (pairs_bytes r.context) ≤ 65535
  pub some_data_keys : 0 < length r.encrypted_data_keys
  pub few_data_keys : length r.encrypted_data_keys ≤ 65535
  pub short_data_keys : short_data_keys r.encrypted_data_keys ≡ true

pub header_passed : (r : Rq.Request) → 0 ≡ header_refusal r → Passed r
unfolding end_marker
header_passed r e =
    let w = three_passed (eqb (length r.id) 32 && (ltb 0 r.frame_length && leb r.frame_length 4294967295)) ((rising r.context && short_pairs r.context) && leb (2 + length (pairs_bytes r.context)) 65535) ((ltb 0 (length r.encrypted_data_keys) && leb (length r.encrypted_data_keys) 65535) && short_data_keys r.encrypted_data_keys) e in
    let a = and_parts _ _ w.0 in
    let f = and_parts _ _ a.1 in
    let b = and_parts _ _ w.1 in
    let n = and_parts _ _ b.0 in
    let d = and_parts _ _ w.2 in
    let m = and_parts _ _ d.0 in
    record {
      id = eqb-true _ _ a.0;
      frame_length = ltb-true _ _ f.0;
      frame_length_fits = leb-true _ _ f.1;
      rises = n.0;
      short_context = n.1;
      context_fits = leb-true _ _ b.1;
      some_data_keys = ltb-true _ _ m.0;
      few_data_keys = leb-true _ _ m.1;
      short_data_keys = d.1;
    }
