-- Fields, pairs, encrypted data keys and contexts: what was read is, written, the bytes that were read; and what is written can be read.
use Rattle.std.proofs.Common.{◌≡◌, ℕ, zero, suc, ◌+◌, ◌^◌, ◌<◌, ◌≤◌, Bool, true, false, ◌&&◌, ltb, List, [], ◌∷◌, ◌++◌, length, sym, refl, ap, ◌∙◌, subst, ap₂, append_assoc, arith}
use Rattle.std.proofs.lemmas.List.{append-nil, nil_from_length}
use Rattle.std.proofs.lemmas.Bool.{and_from, and_parts, eqb-true, le-leb, leb-true, lt-ltb, ltb-true, ne_eqb}
use Rattle.octets.specs.Bits.{pick}
use Rattle.octets.specs.Bytes.{all_bytes, of_bytes, to_bytes}
use Rattle.octets.specs.Cut.{Cut, and_then, cut, guard}
use Rattle.octets.proofs.Bits.{pick_false}
use Rattle.octets.proofs.Cuts.{cut_front, guard_true}
use Rattle.octets.proofs.Numbers.{all_bytes_parts, length-to_bytes, of_bytes_below, to_of_bytes}
use Rattle.format.specs.Header.{context_bytes}
use Rattle.format.specs.Reading.{ReadDataKeys, ReadPairs, cut_field, is_empty, read_context, read_data_keys, read_pairs}
use Rattle.format.specs.Request.{EncryptedDataKey, Pair, data_keys_bytes, field, fits_field, pairs_bytes, rising, short_data_keys, short_pairs}
use Rattle.format.proofs.Fields.{context_body, context_body_short, context_is, count_pairs, length_context_body, of_two}
use Rattle.format.proofs.Steps.{and_then-cut, and_then_gave, and_then_one, and_then_put, cut_is, first_is_first, guard_gave}

pub record FieldRead {B : Type 0} (bs : List ℕ) (f : Cut → List B) (ys : List B) : Type 0 where
  pub front : List ℕ
  pub rest : List ℕ
  pub fits : fits_field front ≡ true
  pub whole : field front ++ rest ≡ bs
  pub then : f (record { front = front; rest = rest }) ≡ ys

pub two_of : (a : List ℕ) (n : ℕ) → length a ≡ 2 → all_bytes a ≡ true → of_bytes a ≡ n → (a ≡ to_bytes 2 n) × (n ≤ 65535)
two_of a n l b e =
    let h : of_bytes a < 256 ^ 2 = subst (λ j. of_bytes a < 256 ^ j) l (of_bytes_below a b) in
    (sym (to_of_bytes 2 a l b) ∙ ap (λ k. to_bytes 2 k) e, omega arith)

pub on_field : {B : Type 0} (bs : List ℕ) (f : Cut → List B) (y : B) (ys : List B) → all_bytes bs ≡ true → and_then (cut_field bs) f ≡ y ∷ ys → FieldRead bs f (y ∷ ys)
on_field bs f y ys bb e =
    let a = and_then_gave (cut_field bs) f y ys e in
    let k = and_then-cut 2 bs (λ x. cut (of_bytes x.front) x.rest) a.one a.more a.here in
    let d = cut_is (of_bytes k.front) k.rest a.one a.more k.then in
    let bk = all_bytes_parts k.front k.rest (rw k.whole bb) in
    let t = two_of k.front (length a.one.front) k.long bk.0 (sym d.0) in
    record {
      front = a.one.front;
      rest = a.one.rest;
      fits = le-leb (length a.one.front) 65535 t.1;
      whole = append_assoc (to_bytes 2 (length a.one.front)) a.one.front a.one.rest ∙ (ap₂ (λ xs zs. xs ++ zs) (sym t.0) d.1 ∙ k.whole);
      then = a.then;
    }

pub record PairsRead (n : ℕ) (bs : List ℕ) (ps : ReadPairs) : Type 0 where
  pub written : pairs_bytes ps.pairs ++ ps.rest ≡ bs
  pub short_all : short_pairs ps.pairs ≡ true
  pub count : length ps.pairs ≡ n

pub pairs_read : (n : ℕ) (bs : List ℕ) (ps : ReadPairs) (more : List ReadPairs) → all_bytes bs ≡ true → read_pairs n bs ≡ ps ∷ more → PairsRead n bs ps
unfolding read_pairs pairs_bytes short_pairs
pairs_read zero bs ps more bb e = subst (λ x. PairsRead 0 bs x) (first_is_first (record { pairs = []; rest = bs }) ps [] more e) (record { written = refl; short_all = refl; count = refl })
pairs_read (suc n) bs ps more bb e =
    let k = on_field bs _ ps more bb e in
    let bk = (all_bytes_parts (field k.front) k.rest (rw k.whole bb)).1 in
    let v = on_field k.rest _ ps more bk k.then in
    let bv = (all_bytes_parts (field v.front) v.rest (rw v.whole bk)).1 in
    let s = and_then_gave (read_pairs n v.rest) _ ps more v.then in
    let r : PairsRead n v.rest s.one = pairs_read n v.rest s.one s.more bv s.here in
    let p : Pair = record { name = k.front; value = v.front } in
    let l = r.count in
    subst (λ x. PairsRead (suc n) bs x) (first_is_first (record { pairs = p ∷ s.one.pairs; rest = s.one.rest }) ps [] more s.then)
    (record {
      written =
          append_assoc (field k.front) (field v.front ++ pairs_bytes s.one.pairs) s.one.rest
          ∙ (ap (λ xs. field k.front ++ xs) (append_assoc (field v.front) (pairs_bytes s.one.pairs) s.one.rest ∙ (ap (λ xs. field v.front ++ xs) r.written ∙ v.whole)) ∙ k.whole);
      short_all = and_from (fits_field k.front && fits_field v.front) (short_pairs s.one.pairs) (and_from (fits_field k.front) (fits_field v.front) k.fits v.fits) r.short_all;
      count = ap suc l;
    })

pub record DataKeysRead (n : ℕ) (bs : List ℕ) (hs : ReadDataKeys) : Type 0 where
  pub written : data_keys_bytes hs.encrypted_data_keys ++ hs.rest ≡ bs
  pub short_all : short_data_keys hs.encrypted_data_keys ≡ true
  pub count : length hs.encrypted_data_keys ≡ n

pub data_keys_read : (n : ℕ) (bs : List ℕ) (hs : ReadDataKeys) (more : List ReadDataKeys) → all_bytes bs ≡ true → read_data_keys n bs ≡ hs ∷ more → DataKeysRead n bs hs
unfolding read_data_keys data_keys_bytes short_data_keys
data_keys_read zero bs hs more bb e = subst (λ x. DataKeysRead 0 bs x) (first_is_first (record { encrypted_data_keys = []; rest = bs }) hs [] more e) (record { written = refl; short_all = refl; count = refl })
data_keys_read (suc n) bs hs more bb e =
    let k = on_field bs _ hs more bb e in
    let bk = (all_bytes_parts (field k.front) k.rest (rw k.whole bb)).1 in
    let v = on_field k.rest _ hs more bk k.then in
    let bv = (all_bytes_parts (field v.front) v.rest (rw v.whole bk)).1 in
    let w = on_field v.rest _ hs more bv v.then in
    let bw = (all_bytes_parts (field w.front) w.rest (rw w.whole bv)).1 in
    let s = and_then_gave (read_data_keys n w.rest) _ hs more w.then in
    let r : DataKeysRead n w.rest s.one = data_keys_read n w.rest s.one s.more bw s.here in
    let p : EncryptedDataKey = record { provider_id = k.front; provider_info = v.front; ciphertext = w.front } in
    let bytes_then : List ℕ = data_keys_bytes s.one.encrypted_data_keys in
    subst (λ x. DataKeysRead (suc n) bs x) (first_is_first (record { encrypted_data_keys = p ∷ s.one.encrypted_data_keys; rest = s.one.rest }) hs [] more s.then)
    (record {
      written =
          append_assoc (field k.front) (field v.front ++ (field w.front ++ bytes_then)) s.one.rest
          ∙ (ap (λ xs. field k.front ++ xs)
          (append_assoc (field v.front) (field w.front ++ bytes_then) s.one.rest
          ∙ (ap (λ xs. field v.front ++ xs) (append_assoc (field w.front) bytes_then s.one.rest ∙ (ap (λ xs. field w.front ++ xs) r.written ∙ w.whole)) ∙ v.whole))
          ∙ k.whole);
      short_all =
          and_from (fits_field k.front && (fits_field v.front && fits_field w.front)) (short_data_keys s.one.encrypted_data_keys)
          (and_from (fits_field k.front) (fits_field v.front && fits_field w.front) k.fits (and_from (fits_field v.front) (fits_field w.front) v.fits w.fits)) r.short_all;
      count = ap suc r.count;
    })

pub record ContextRead (bs : List ℕ) (ps : ReadPairs) : Type 0 where
  pub written : context_bytes ps.pairs ++ ps.rest ≡ bs
  pub short_all : short_pairs ps.pairs ≡ true
  pub little : 2 + length (pairs_bytes ps.pairs) ≤ 65535

-- pairs that fill a field
filled : (ps : List Pair) (front rest bs : List ℕ) → 0 < length ps → front ≡ to_bytes 2 (length ps) ++ pairs_bytes ps → fits_field front ≡ true → field front ++ rest ≡ bs → short_pairs ps ≡ true
    → ContextRead bs (record { pairs = ps; rest = rest })
filled [] front rest bs h e s w a = absurd (omega arith)
filled (p ∷ ps) front rest bs h e s w a =
    let l = length_context_body p ps in
    let f : length front ≡ length (context_body (p ∷ ps)) = ap length e in
    let k = leb-true (length front) 65535 s in
    record { written = ap (λ xs. xs ++ rest) (context_is (p ∷ ps) ∙ ap field (sym e)) ∙ w; short_all = a; little = omega arith }

none : (front rest bs : List ℕ) → field front ++ rest ≡ bs → front ≡ [] → ContextRead bs (record { pairs = []; rest = rest })
unfolding pairs_bytes short_pairs
none front rest bs w z = record { written = ap (λ xs. xs ++ rest) (context_is [] ∙ ap field (sym z)) ∙ w; short_all = refl; little = omega arith }

pub context_read : (bs : List ℕ) (ps : ReadPairs) (more : List ReadPairs) → all_bytes bs ≡ true → read_context bs ≡ ps ∷ more → ContextRead bs ps
unfolding pick
context_read bs ps more bb e =
    let k = on_field bs _ ps more bb e in
    let bk = (all_bytes_parts (field k.front) k.rest (rw k.whole bb)).0 in
    go k.front k.rest (all_bytes_parts (to_bytes 2 (length k.front)) k.front bk).1 k.fits k.whole (is_empty k.front) refl k.then
  where
    go : (front rest : List ℕ) → all_bytes front ≡ true → fits_field front ≡ true → field front ++ rest ≡ bs → (b : Bool) → is_empty front ≡ b
        → pick b (record { pairs = []; rest = rest } ∷ [])
        (and_then (cut 2 front) (λ n. and_then (read_pairs (of_bytes n.front) n.rest) (λ qs.
        guard (is_empty qs.rest && (ltb 0 (length qs.pairs) && rising qs.pairs)) (record { pairs = qs.pairs; rest = rest } ∷ [])))) ≡ ps ∷ more → ContextRead bs ps
    go front rest bf s w true h e = subst (ContextRead bs) (first_is_first (record { pairs = []; rest = rest }) ps [] more e) (none front rest bs w (nil_from_length front (eqb-true (length front) 0 h)))
    go front rest bf s w false h e =
        let n = and_then-cut 2 front _ ps more e in
        let bn = all_bytes_parts n.front n.rest (rw n.whole bf) in
        let q = and_then_gave (read_pairs (of_bytes n.front) n.rest) _ ps more n.then in
        let r = pairs_read (of_bytes n.front) n.rest q.one q.more bn.1 q.here in
        let i = guard_gave (is_empty q.one.rest && (ltb 0 (length q.one.pairs) && rising q.one.pairs)) _ ps more q.then in
        let i1 = and_parts (is_empty q.one.rest) (ltb 0 (length q.one.pairs) && rising q.one.pairs) i.0 in
        let i2 = and_parts (ltb 0 (length q.one.pairs)) (rising q.one.pairs) i1.1 in
        let z : q.one.rest ≡ [] = nil_from_length q.one.rest (eqb-true (length q.one.rest) 0 i1.0) in
        let t = two_of n.front (length q.one.pairs) n.long bn.0 (sym r.count) in
        let f : n.rest ≡ pairs_bytes q.one.pairs = sym r.written ∙ (ap (λ xs. pairs_bytes q.one.pairs ++ xs) z ∙ append-nil (pairs_bytes q.one.pairs)) in
        subst (ContextRead bs) (first_is_first (record { pairs = q.one.pairs; rest = rest }) ps [] more i.1)
        (filled q.one.pairs front rest bs (ltb-true 0 (length q.one.pairs) i2.0) (sym n.whole ∙ ap₂ (λ xs ys. xs ++ ys) t.0 f) s w r.short_all)

-- what is written can be read
field_put : (a b : List ℕ) → length a ≤ 65535 → cut_field (field a ++ b) ≡ record { front = a; rest = b } ∷ []
field_put a b h =
    ap cut_field (append_assoc (to_bytes 2 (length a)) a b)
    ∙ (and_then_put 2 (to_bytes 2 (length a)) (a ++ b) (λ c. cut (of_bytes c.front) c.rest) (length-to_bytes 2 (length a)) ∙ cut_front (of_bytes (to_bytes 2 (length a))) a b (sym (of_two (length a) h)))

on_field_put : {B : Type 0} (a b : List ℕ) (f : Cut → List B) → fits_field a ≡ true → and_then (cut_field (field a ++ b)) f ≡ f (record { front = a; rest = b })
on_field_put a b f h = and_then_one (cut_field (field a ++ b)) (record { front = a; rest = b }) f (field_put a b (leb-true (length a) 65535 h))

pairs_put : (ps : List Pair) (b : List ℕ) → short_pairs ps ≡ true → read_pairs (length ps) (pairs_bytes ps ++ b) ≡ record { pairs = ps; rest = b } ∷ []
unfolding read_pairs pairs_bytes short_pairs
pairs_put [] b h = refl
pairs_put (p ∷ ps) b h =
    let s = and_parts (fits_field p.name && fits_field p.value) (short_pairs ps) h in
    let s1 = and_parts (fits_field p.name) (fits_field p.value) s.0 in
    ap (λ xs. read_pairs (suc (length ps)) xs) (append_assoc (field p.name) (field p.value ++ pairs_bytes ps) b ∙ ap (λ xs. field p.name ++ xs) (append_assoc (field p.value) (pairs_bytes ps) b))
    ∙ (on_field_put p.name (field p.value ++ (pairs_bytes ps ++ b)) _ s1.0
    ∙ (on_field_put p.value (pairs_bytes ps ++ b) _ s1.1 ∙ and_then_one (read_pairs (length ps) (pairs_bytes ps ++ b)) (record { pairs = ps; rest = b }) _ (pairs_put ps b s.1)))

pub data_keys_put : (ps : List EncryptedDataKey) (b : List ℕ) → short_data_keys ps ≡ true → read_data_keys (length ps) (data_keys_bytes ps ++ b) ≡ record { encrypted_data_keys = ps; rest = b } ∷ []
unfolding read_data_keys data_keys_bytes short_data_keys
data_keys_put [] b h = refl
data_keys_put (p ∷ ps) b h =
    let s = and_parts (fits_field p.provider_id && (fits_field p.provider_info && fits_field p.ciphertext)) (short_data_keys ps) h in
    let s1 = and_parts (fits_field p.provider_id) (fits_field p.provider_info && fits_field p.ciphertext) s.0 in
    let s2 = and_parts (fits_field p.provider_info) (fits_field p.ciphertext) s1.1 in
    let r : List ℕ = data_keys_bytes ps ++ b in
    ap (λ xs. read_data_keys (suc (length ps)) xs)
    (append_assoc (field p.provider_id) (field p.provider_info ++ (field p.ciphertext ++ data_keys_bytes ps)) b
    ∙ ap (λ xs. field p.provider_id ++ xs) (append_assoc (field p.provider_info) (field p.ciphertext ++ data_keys_bytes ps) b ∙ ap (λ xs. field p.provider_info ++ xs) (append_assoc (field p.ciphertext) (data_keys_bytes ps) b)))
    ∙ (on_field_put p.provider_id (field p.provider_info ++ (field p.ciphertext ++ r)) _ s1.0
    ∙ (on_field_put p.provider_info (field p.ciphertext ++ r) _ s2.0
    ∙ (on_field_put p.ciphertext r _ s2.1 ∙ and_then_one (read_data_keys (length ps) r) (record { encrypted_data_keys = ps; rest = b }) _ (data_keys_put ps b s.1))))

-- the inside of a context's field
abbrev inside : List ℕ → List ℕ → List ReadPairs
inside front rest =
    pick (is_empty front) (record { pairs = []; rest = rest } ∷ [])
    (and_then (cut 2 front) (λ n. and_then (read_pairs (of_bytes n.front) n.rest) (λ ps.
    guard (is_empty ps.rest && (ltb 0 (length ps.pairs) && rising ps.pairs)) (record { pairs = ps.pairs; rest = rest } ∷ []))))

inside_put : (ps : List Pair) (b : List ℕ) → short_pairs ps ≡ true → 2 + length (pairs_bytes ps) ≤ 65535 → rising ps ≡ true → inside (context_body ps) b ≡ record { pairs = ps; rest = b } ∷ []
unfolding pick
inside_put [] b h l r = refl
inside_put (p ∷ ps) b h l r =
    let m = length_context_body p ps in
    let c = count_pairs (p ∷ ps) in
    let n : ℕ = suc (length ps) in
    let e : of_bytes (to_bytes 2 n) ≡ n = of_two n (omega arith) in
    let all : List ℕ = pairs_bytes (p ∷ ps) in
    let read : read_pairs (of_bytes (to_bytes 2 n)) all ≡ record { pairs = p ∷ ps; rest = [] } ∷ [] =
    ap₂ (λ k xs. read_pairs k xs) e (sym (append-nil all)) ∙ pairs_put (p ∷ ps) [] h in
    pick_false (is_empty (context_body (p ∷ ps))) _ _ (ne_eqb (length (context_body (p ∷ ps))) 0 (λ z. omega arith))
    ∙ (and_then_put 2 (to_bytes 2 n) all _ (length-to_bytes 2 n)
    ∙ (and_then_one (read_pairs (of_bytes (to_bytes 2 n)) all) (record { pairs = p ∷ ps; rest = [] }) _ read
    ∙ guard_true (true && (ltb 0 n && rising (p ∷ ps))) _ (and_from true (ltb 0 n && rising (p ∷ ps)) refl (and_from (ltb 0 n) (rising (p ∷ ps)) (lt-ltb 0 n (omega arith)) r))))

pub context_put : (ps : List Pair) (b : List ℕ) → short_pairs ps ≡ true → 2 + length (pairs_bytes ps) ≤ 65535 → rising ps ≡ true → read_context (context_bytes ps ++ b) ≡ record { pairs = ps; rest = b } ∷ []
context_put ps b h l r =
    ap (λ xs. read_context (xs ++ b)) (context_is ps)
    ∙ (on_field_put (context_body ps) b (λ c. inside c.front c.rest) (le-leb (length (context_body ps)) 65535 (context_body_short ps l)) ∙ inside_put ps b h l r)
