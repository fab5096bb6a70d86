-- Lists of what is made of fields: how long they are, and that each is short.
use Rattle.std.proofs.Common.{◌≡◌, ℕ, ◌+◌, ◌<◌, ◌≤◌, Bool, true, false, ◌&&◌, Option, List, [], ◌∷◌, ◌++◌, length, get_or, take, drop, Some, None, sym, refl, ap, ◌∙◌, append_assoc, arith, take-append-drop, ltb, leb}
use Rattle.std.specs.List.{flat_map, list_all}
use Rattle.std.proofs.lemmas.List.{drop_more, take_more, append-nil}
use Rattle.std.proofs.lemmas.Grind.{flat_map-append}
use Rattle.std.proofs.lemmas.Bool.{and_parts, and_from, and_left, and_right, leb-true, lt-leb, lt-ltb, ltb-false, cond-true, cond-false}
use Rattle.format.specs.Request.{field, fits_field, rising, pairs_bytes, short_pairs, data_keys_bytes, short_data_keys}
use Rattle.header.specs.Models.{pair, pairs, data_key, data_keys}
use Rattle.header.specs.Checked.{length_if, short_length_if, context_length, short_data_key, data_keys_length}
use Rattle.header.specs.Written.{pair_bytes, short_pair, data_key_bytes}
use Rattle.header.specs.declared.request.Pair.{Pair}
use Rattle.header.specs.declared.request.EncryptedDataKey.{EncryptedDataKey}
use Rattle.header.proofs.Lengths.{length-field, some_cond, data_keys_bounded, data_keys_part_long}

-- a length under a test
pub length_if_true : (b : Bool) (bs : List ℕ) (n : ℕ) → b ≡ true → n ≡ length bs → Some n ≡ length_if b bs
length_if_true b bs n e l = ap Some l ∙ sym (cond-true _ _ _ e)

pub length_if_false : (b : Bool) (bs : List ℕ) → b ≡ false → None ≡ length_if b bs
length_if_false b bs e = sym (cond-false _ _ _ e)

pub length_if_none : (b : Bool) (bs : List ℕ) → None ≡ length_if b bs → b ≡ false
length_if_none true bs e = absurd (cc)
length_if_none false bs e = refl

-- a field that is short enough
pub record FieldTold (t : List ℕ) (n : ℕ) : Type 0 where
  pub fits : fits_field t ≡ true
  pub long : n ≡ length (field t)
  pub few : n ≤ 65537

pub field_told : (t : List ℕ) (n : ℕ) → Some n ≡ length_if (fits_field t) (field t) → FieldTold t n
field_told t n e =
    let s = some_cond _ _ _ e in
    let l : length t ≤ 65535 = leb-true _ _ s.0 in
    let m : n ≡ length (field t) = s.1 in
    record { fits = s.0; long = m; few = omega (arith, length-field t) }

-- one more element
pub drop_item : {X : Type 0} (xs : List X) (i : ℕ) (x : X) → i < length xs → x ≡ get_or xs i x → drop i xs ≡ x ∷ drop (i + 1) xs
drop_item xs i x h e = drop_more xs i x h ∙ ap (λ y. y ∷ drop (i + 1) xs) (sym e)

pub take_item : {X : Type 0} (xs : List X) (i : ℕ) (x : X) → i < length xs → x ≡ get_or xs i x → take (i + 1) xs ≡ take i xs ++ (x ∷ [])
take_item xs i x h e = take_more xs i x h ∙ ap (λ y. take i xs ++ (y ∷ [])) (sym e)

pub flat_map_item : {X : Type 0} (f : X → List ℕ) (xs : List X) (i : ℕ) (x : X) → i < length xs → x ≡ get_or xs i x → flat_map f (take (i + 1) xs) ≡ flat_map f (take i xs) ++ f x
flat_map_item f xs i x h e = ap (flat_map f) (take_item xs i x h e) ∙ flat_map-append f (take i xs) (x ∷ []) ∙ ap (λ l. flat_map f (take i xs) ++ l) (append-nil (f x))

pub flat_map_at : {X : Type 0} (f : X → List ℕ) (xs : List X) (i : ℕ) (x : X) → i < length xs → x ≡ get_or xs i x → flat_map f (take i xs) ++ (f x ++ flat_map f (drop (i + 1) xs)) ≡ flat_map f xs
flat_map_at f xs i x h e =
    sym (ap (λ l. flat_map f (take i xs) ++ flat_map f l) (drop_item xs i x h e)) ∙ sym (flat_map-append f (take i xs) (drop i xs)) ∙ ap (flat_map f) (take-append-drop i xs)

-- the parts' bytes and tests are the format's
pub pairs_flat : (ps : List Pair) → flat_map (λ p. pair_bytes (pair p)) ps ≡ pairs_bytes (pairs ps)
unfolding pairs_bytes
pairs_flat [] = refl
pairs_flat (p ∷ ps) = append_assoc (field p.name.now) (field p.value.now) _ ∙ ap (λ l. field p.name.now ++ (field p.value.now ++ l)) (pairs_flat ps)

pub pairs_all_short : (ps : List Pair) → list_all (λ p. short_pair (pair p)) ps ≡ short_pairs (pairs ps)
unfolding short_pairs
pairs_all_short [] = refl
pairs_all_short (p ∷ ps) = ap (λ b. short_pair (pair p) && b) (pairs_all_short ps)

pub data_keys_flat : (ks : List EncryptedDataKey) → flat_map (λ k. data_key_bytes (data_key k)) ks ≡ data_keys_bytes (data_keys ks)
unfolding data_keys_bytes
data_keys_flat [] = refl
data_keys_flat (k ∷ ks) = ap (λ l. data_key_bytes (data_key k) ++ l) (data_keys_flat ks) ∙ simp append_assoc

pub data_keys_all_short : (ks : List EncryptedDataKey) → list_all (λ k. short_data_key (data_key k)) ks ≡ short_data_keys (data_keys ks)
unfolding short_data_keys
data_keys_all_short [] = refl
data_keys_all_short (k ∷ ks) = ap (λ b. short_data_key (data_key k) && b) (data_keys_all_short ks)

-- what a length of pairs, or none, says
abbrev pub pairs_len : List Pair → Option ℕ
pairs_len ps = short_length_if (list_all (λ p. short_pair (pair p)) ps) (flat_map (λ p. pair_bytes (pair p)) ps)

not_in_field : (r s : Bool) (n : ℕ) → (s && ltb n 18446744073709551616) ≡ false → ((r && s) && leb (2 + n) 65535) ≡ false
not_in_field r true n e = let l : 18446744073709551616 ≤ n = ltb-false _ _ e in and_right (r && true) _ (lt-leb _ _ (omega arith))
not_in_field r false n e = and_left (r && false) _ (and_right r false refl)

pub pairs_none : (ps : List Pair) → None ≡ pairs_len ps → None ≡ context_length (pairs ps)
pairs_none ps h = length_if_false _ _ (not_in_field (rising (pairs ps)) (short_pairs (pairs ps)) _ (length_if_none _ _ (rw (pairs_all_short ps, pairs_flat ps) at h)))

pub pairs_some : (ps : List Pair) (n : ℕ) → Some n ≡ pairs_len ps → (n ≡ length (pairs_bytes (pairs ps))) × (short_pairs (pairs ps) ≡ true)
pairs_some ps n h =
    let s = some_cond _ _ _ h in
    (s.1 ∙ ap length (pairs_flat ps), sym (pairs_all_short ps) ∙ (and_parts _ _ s.0).0)

pub pairs_too_long : (ps : List Pair) → 65533 < length (pairs_bytes (pairs ps)) → None ≡ context_length (pairs ps)
pairs_too_long ps h = length_if_false _ _ (and_right (rising (pairs ps) && short_pairs (pairs ps)) _ (lt-leb _ _ (omega arith)))

-- and of data keys
abbrev pub keys_len : List EncryptedDataKey → Option ℕ
keys_len ks = short_length_if (list_all (λ k. short_data_key (data_key k)) ks) (flat_map (λ k. data_key_bytes (data_key k)) ks)

pub keys_some : (ks : List EncryptedDataKey) (n : ℕ) → Some n ≡ keys_len ks → (n ≡ length (data_keys_bytes (data_keys ks))) × (short_data_keys (data_keys ks) ≡ true)
keys_some ks n h =
    let s = some_cond _ _ _ h in
    (s.1 ∙ ap length (data_keys_flat ks), sym (data_keys_all_short ks) ∙ (and_parts _ _ s.0).0)

pub keys_none : (ks : List EncryptedDataKey) → length ks ≤ 65535 → None ≡ keys_len ks → None ≡ data_keys_length (data_keys ks)
keys_none ks l h = by_test (short_data_keys (data_keys ks)) refl
  where
    by_test : (b : Bool) → short_data_keys (data_keys ks) ≡ b → None ≡ data_keys_length (data_keys ks)
    by_test false e = data_keys_part_long (data_keys ks) e
    by_test true e =
        let m : length (data_keys_bytes (data_keys ks)) ≤ 12884901885 = data_keys_bounded ks l e in
        let f : (short_data_keys (data_keys ks) && ltb (length (data_keys_bytes (data_keys ks))) 18446744073709551616) ≡ false = length_if_none _ _ (rw (data_keys_all_short ks, data_keys_flat ks) at h) in
        absurd (let z : ◌≡◌ {A = Bool} true false = sym (and_from _ _ e (lt-ltb _ _ (omega arith))) ∙ f in cc)
