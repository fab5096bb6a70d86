-- A context and a whole header are their parts, read one after another.
use Rattle.std.proofs.Common.{◌≡◌, ℕ, ◌<◌, Bool, true, false, ◌&&◌, ltb, List, [], ◌∷◌, length, sym, refl, ap, ◌∙◌, subst, arith}
use Rattle.std.proofs.lemmas.Bool.{lt-ltb, le-ltb, and_left, and_right, and_from}
use Rattle.octets.specs.Bytes.{bytes_eq, of_bytes}
use Rattle.octets.specs.Cut.{Cut, cut, and_then, guard, CutNumber}
use Rattle.octets.proofs.Cuts.{the_cut, cut_parts, and_then_some, and_then_ext, and_then_assoc, guard-and_then, the_number}
use Rattle.format.specs.Request as Rq
use Rattle.format.specs.Request.{rising}
use Rattle.format.specs.Reading as Rd
use Rattle.format.specs.Reading.{ReadPairs, ReadDataKeys, is_empty, cut_field, read_pairs, read_context, read_data_keys, read_header}
use Rattle.format.proofs.Steps.{and_then_gave, guard_gave}
use Rattle.header_read.specs.Cuts.{CutEntries, listed, skipped, cut_entries, cut_counted, cut_pair, cut_data_key}
use Rattle.header_read.specs.Parts.{rising_rest, start_part, frame_length_part}
use Rattle.header_read.proofs.Steps.{guard_yes, guard_no, guard_gave_none, guard_gave_one, First}
use Rattle.header_read.proofs.Listing.{pairs_listed, data_keys_made, data_keys_read}

-- a context of so many pairs in these bytes
abbrev kept : List ℕ → ReadPairs → List ReadPairs
kept after ps = guard (is_empty ps.rest && (ltb 0 (length ps.pairs) && rising ps.pairs)) (record { pairs = ps.pairs; rest = after } ∷ [])

abbrev pub context_of : List ℕ → ℕ → List ℕ → List ReadPairs
context_of after n bs = and_then (read_pairs n bs) (kept after)

abbrev walked : ReadPairs → List (List ℕ)
walked ps = guard (rising ps.pairs) (ps.rest ∷ [])

context_zero_of : (xs : List ReadPairs) (after : List ℕ) → First (λ ps. length ps.pairs ≡ 0) xs → [] ≡ and_then xs (kept after)
unfolding and_then
context_zero_of [] after h = refl
context_zero_of (ps ∷ t) after h = guard_no _ _ (sym (and_right (is_empty ps.rest) _ (and_left (ltb 0 (length ps.pairs)) _ (le-ltb 0 _ (omega arith)))))

pub context_zero : (n : ℕ) (bs after : List ℕ) → n ≡ 0 → [] ≡ context_of after n bs
unfolding read_pairs
context_zero n bs after e = let P : ℕ → Type 0 = λ k. [] ≡ context_of after k bs in subst P (sym e) (context_zero_of (read_pairs 0 bs) after refl)

pub context_falls : (xs : List ReadPairs) (after : List ℕ) → [] ≡ and_then xs walked → [] ≡ and_then xs (kept after)
unfolding and_then
context_falls [] after e = refl
context_falls (ps ∷ t) after e = guard_no _ _ (sym (and_right (is_empty ps.rest) _ (and_right (ltb 0 (length ps.pairs)) _ (guard_gave_none _ _ _ e))))

pub context_goes_on : (xs : List ReadPairs) (end after : List ℕ) → (end ∷ []) ≡ and_then xs walked → false ≡ is_empty end → [] ≡ and_then xs (kept after)
unfolding and_then
context_goes_on [] end after e f = refl
context_goes_on (ps ∷ t) end after e f = let s = guard_gave_one _ _ _ e in guard_no _ _ (sym (and_left (is_empty ps.rest) _ (ap is_empty (sym s.1) ∙ sym f)))

context_some_of : (xs : List ReadPairs) (l : List Rq.Pair) (n : ℕ) (end after : List ℕ) → 0 < n → First (λ ps. (l ≡ ps.pairs) × (length ps.pairs ≡ n)) xs → (end ∷ []) ≡ and_then xs walked → true ≡ is_empty end → (record { pairs = l; rest = after } ∷ []) ≡ and_then xs (kept after)
unfolding and_then
context_some_of [] l n end after h f e t = absurd (let z : ◌≡◌ {A = ℕ} 0 1 = cc in omega arith)
context_some_of (ps ∷ more) l n end after h f e t =
    let s = guard_gave_one _ _ _ e in
    let m = f.1 in
    ap (λ k. record { pairs = k; rest = after } ∷ []) f.0
    ∙ guard_yes _ _ (sym (and_from _ _ (ap is_empty (sym s.1) ∙ sym t) (and_from _ _ (lt-ltb 0 (length ps.pairs) (omega arith)) s.0)))

pub context_some : (n : ℕ) (bs end after : List ℕ) → 0 < n → (end ∷ []) ≡ rising_rest n bs → true ≡ is_empty end → (record { pairs = listed cut_pair n bs; rest = after } ∷ []) ≡ context_of after n bs
context_some n bs end after h e t = context_some_of (read_pairs n bs) (listed cut_pair n bs) n end after h (pairs_listed n bs) e t

-- the frame length behind the content type
abbrev pub frame_length_of : ℕ → List ℕ → List CutNumber
frame_length_of n r = guard (ltb 0 n) (the_number n r ∷ [])

-- a header is its parts, one after another
start_step : {B : Type 0} (bs : List ℕ) (K : Cut → List B) → and_then (start_part bs) K ≡ and_then (cut 3 bs) (λ v. guard (bytes_eq v.front (2 ∷ (4 ∷ (120 ∷ [])))) (and_then (cut 32 v.rest) K))
start_step bs K = and_then_assoc (cut 3 bs) _ K ∙ and_then_ext (cut 3 bs) _ _ (λ v. sym (guard-and_then _ (cut 32 v.rest) K))

data_keys_step : {B : Type 0} (bs : List ℕ) (K : ReadDataKeys → List B)
    → and_then (cut_counted cut_data_key bs) (λ ks. K (record { encrypted_data_keys = ks.entries; rest = ks.rest })) ≡ and_then (cut 2 bs) (λ n. guard (ltb 0 (of_bytes n.front)) (and_then (read_data_keys (of_bytes n.front) n.rest) K))
unfolding and_then
data_keys_step bs K =
    and_then_assoc (cut 2 bs) _ _
    ∙ and_then_ext (cut 2 bs) _ _ (λ n. sym (guard-and_then _ _ _)
    ∙ ap (λ xs. guard (ltb 0 (of_bytes n.front)) xs) (sym (ap (λ xs. and_then xs K) (data_keys_read (of_bytes n.front) n.rest) ∙ and_then_assoc (cut_entries cut_data_key (of_bytes n.front) n.rest) data_keys_made K)))

frame_length_step : {B : Type 0} (bs : List ℕ) (K : CutNumber → List B) → and_then (frame_length_part bs) K ≡ and_then (cut 1 bs) (λ t. guard (bytes_eq t.front (2 ∷ [])) (and_then (cut 4 t.rest) (λ f. guard (ltb 0 (of_bytes f.front)) (K (the_number (of_bytes f.front) f.rest)))))
unfolding and_then
frame_length_step bs K =
    and_then_assoc (cut 1 bs) _ K
    ∙ and_then_ext (cut 1 bs) _ _ (λ t. sym (guard-and_then _ _ K) ∙ ap (λ xs. guard (bytes_eq t.front (2 ∷ [])) xs) (and_then_assoc (cut 4 t.rest) _ K ∙ and_then_ext (cut 4 t.rest) _ _ (λ f. sym (guard-and_then _ _ K))))

abbrev the_header : List ℕ → List Rq.Pair → List Rq.EncryptedDataKey → ℕ → List ℕ → List ℕ → List ℕ → Rd.ReadHeader
the_header id ps ks n c g r = record { header = record { id = id; context = ps; encrypted_data_keys = ks; frame_length = n; commitment = c }; tag = g; rest = r }

abbrev pub by_parts : List ℕ → List Rd.ReadHeader
by_parts bs =
    and_then (start_part bs) (λ i. and_then (read_context i.rest) (λ c. and_then (cut_counted cut_data_key c.rest) (λ h. and_then (frame_length_part h.rest) (λ f.
    and_then (cut 32 f.rest) (λ k. and_then (cut 16 k.rest) (λ g. the_header i.front c.pairs h.entries f.value k.front g.front g.rest ∷ []))))))

pub header_by_parts : (bs : List ℕ) → read_header bs ≡ by_parts bs
unfolding read_header
header_by_parts bs =
    sym (start_step bs _ ∙ and_then_ext (cut 3 bs) _ _ (λ v. ap (λ xs. guard (bytes_eq v.front (2 ∷ (4 ∷ (120 ∷ [])))) xs) (
    and_then_ext (cut 32 v.rest) _ _ (λ i. and_then_ext (read_context i.rest) _ _ (λ c.
    data_keys_step c.rest (λ h. and_then (frame_length_part h.rest) (λ f. and_then (cut 32 f.rest) (λ k. and_then (cut 16 k.rest) (λ g. the_header i.front c.pairs h.encrypted_data_keys f.value k.front g.front g.rest ∷ []))))
    ∙ and_then_ext (cut 2 c.rest) _ _ (λ n. ap (λ xs. guard (ltb 0 (of_bytes n.front)) xs) (
    and_then_ext (read_data_keys (of_bytes n.front) n.rest) _ _ (λ h. frame_length_step h.rest _))))))))

-- how long the id is
pub id_long : (bs : List ℕ) (c : Cut) → (c ∷ []) ≡ start_part bs → length c.front ≡ 32
id_long bs c e =
    let x = and_then_gave (cut 3 bs) (λ v. guard (bytes_eq v.front (2 ∷ (4 ∷ (120 ∷ [])))) (cut 32 v.rest)) c [] (sym e) in
    let g = guard_gave (bytes_eq x.one.front (2 ∷ (4 ∷ (120 ∷ [])))) (cut 32 x.one.rest) c [] x.then in
    (cut_parts 32 x.one.rest c.front c.rest (sym g.1)).long
