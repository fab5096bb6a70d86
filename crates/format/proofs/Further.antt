-- What is read from bytes is read from them as well when more follow, and more is left.
use Rattle.std.proofs.Common.{◌≡◌, ℕ, zero, suc, Bool, true, false, ◌&&◌, eqb, ltb, List, [], ◌∷◌, ◌++◌, length, sym, refl, ap, ◌∙◌, append_assoc}
use Rattle.octets.specs.Bits.{pick}
use Rattle.octets.specs.Bytes.{of_bytes}
use Rattle.octets.specs.Cut.{Cut, and_then, cut, guard}
use Rattle.octets.proofs.Cuts.{cut_front}
use Rattle.format.specs.Reading.{ReadDataKeys, ReadFrame, ReadHeader, ReadPairs, cut_field, is_empty, read_context, read_data_keys, read_final, read_frame, read_header, read_pairs, read_regular}
use Rattle.format.specs.Request.{end_marker, rising}
use Rattle.format.proofs.Steps.{cut_is, first_is_first, none_is_one}

-- what is read first, with q done to it, is what is read there
abbrev Grows : {A : Type 0} → (A → A) → List A → List A → Type 0
Grows {A} q xs ys = (x : A) (more : List A) → xs ≡ x ∷ more → ys ≡ q x ∷ []

and_then_grows : {A B : Type 0} (p : A → A) (q : B → B) (xs ys : List A) (f g : A → List B) → Grows p xs ys → ((a : A) → Grows q (f a) (g (p a))) → Grows q (and_then xs f) (and_then ys g)
unfolding and_then
and_then_grows p q [] ys f g a b x more e = none_is_one _ x more e
and_then_grows p q (y ∷ xs) ys f g a b x more e = ap (λ zs. and_then zs g) (a y xs refl) ∙ b y x more e

and_then_same : {A B : Type 0} (q : B → B) (xs : List A) (f g : A → List B) → ((a : A) → Grows q (f a) (g a)) → Grows q (and_then xs f) (and_then xs g)
unfolding and_then
and_then_same q [] f g b x more e = none_is_one _ x more e
and_then_same q (y ∷ xs) f g b x more e = b y x more e

guard_grows : {A : Type 0} (q : A → A) (b : Bool) (xs ys : List A) → Grows q xs ys → Grows q (guard b xs) (guard b ys)
unfolding guard
guard_grows q true xs ys g = g
guard_grows q false xs ys g = λ x more e. none_is_one _ x more e

pick_grows : {A : Type 0} (q : A → A) (b : Bool) (xs ys us vs : List A) → Grows q xs ys → Grows q us vs → Grows q (pick b xs us) (pick b ys vs)
unfolding pick
pick_grows q true xs ys us vs g h = g
pick_grows q false xs ys us vs g h = h

one_grows : {A : Type 0} (q : A → A) (a b : A) → b ≡ q a → Grows q (a ∷ []) (b ∷ [])
one_grows q a b h x more e = ap (λ y. y ∷ []) (h ∙ ap q (first_is_first a x [] more e))

module _ (cs : List ℕ) where
  abbrev cut_on : Cut → Cut
  cut_on c = record { front = c.front; rest = c.rest ++ cs }

  abbrev pairs_on : ReadPairs → ReadPairs
  pairs_on c = record { pairs = c.pairs; rest = c.rest ++ cs }

  abbrev data_keys_on : ReadDataKeys → ReadDataKeys
  data_keys_on c = record { encrypted_data_keys = c.encrypted_data_keys; rest = c.rest ++ cs }

  abbrev pub header_on : ReadHeader → ReadHeader
  header_on x = record { header = x.header; tag = x.tag; rest = x.rest ++ cs }

  abbrev pub frame_on : ReadFrame → ReadFrame
  frame_on f = record { last = f.last; sealed = f.sealed; rest = f.rest ++ cs }

  cut_grows : (n : ℕ) (bs : List ℕ) → Grows cut_on (cut n bs) (cut n (bs ++ cs))
  cut_grows n bs c more e =
      let p = cut_is n bs c more e in
      ap (λ xs. cut n xs) (ap (λ xs. xs ++ cs) (sym p.1) ∙ append_assoc c.front c.rest cs) ∙ cut_front n c.front (c.rest ++ cs) p.0

  field_grows : (bs : List ℕ) → Grows cut_on (cut_field bs) (cut_field (bs ++ cs))
  field_grows bs = and_then_grows cut_on cut_on (cut 2 bs) (cut 2 (bs ++ cs)) _ _ (cut_grows 2 bs) (λ c. cut_grows (of_bytes c.front) c.rest)

  pairs_grow : (n : ℕ) (bs : List ℕ) → Grows pairs_on (read_pairs n bs) (read_pairs n (bs ++ cs))
  unfolding read_pairs
  pairs_grow zero bs = one_grows pairs_on (record { pairs = []; rest = bs }) (record { pairs = []; rest = bs ++ cs }) refl
  pairs_grow (suc n) bs =
      and_then_grows cut_on pairs_on (cut_field bs) (cut_field (bs ++ cs)) _ _ (field_grows bs) (λ k.
      and_then_grows cut_on pairs_on (cut_field k.rest) (cut_field (k.rest ++ cs)) _ _ (field_grows k.rest) (λ v.
      and_then_grows pairs_on pairs_on (read_pairs n v.rest) (read_pairs n (v.rest ++ cs)) _ _ (pairs_grow n v.rest) (λ ps. one_grows pairs_on _ _ refl)))

  context_grows : (bs : List ℕ) → Grows pairs_on (read_context bs) (read_context (bs ++ cs))
  context_grows bs =
      and_then_grows cut_on pairs_on (cut_field bs) (cut_field (bs ++ cs)) _ _ (field_grows bs) (λ c.
      pick_grows pairs_on (is_empty c.front) _ _ _ _ (one_grows pairs_on _ _ refl)
      (and_then_same pairs_on (cut 2 c.front) _ _ (λ n. and_then_same pairs_on (read_pairs (of_bytes n.front) n.rest) _ _ (λ ps.
      guard_grows pairs_on (is_empty ps.rest && (ltb 0 (length ps.pairs) && rising ps.pairs)) _ _ (one_grows pairs_on _ _ refl)))))

  data_keys_grow : (n : ℕ) (bs : List ℕ) → Grows data_keys_on (read_data_keys n bs) (read_data_keys n (bs ++ cs))
  unfolding read_data_keys
  data_keys_grow zero bs = one_grows data_keys_on (record { encrypted_data_keys = []; rest = bs }) (record { encrypted_data_keys = []; rest = bs ++ cs }) refl
  data_keys_grow (suc n) bs =
      and_then_grows cut_on data_keys_on (cut_field bs) (cut_field (bs ++ cs)) _ _ (field_grows bs) (λ p.
      and_then_grows cut_on data_keys_on (cut_field p.rest) (cut_field (p.rest ++ cs)) _ _ (field_grows p.rest) (λ i.
      and_then_grows cut_on data_keys_on (cut_field i.rest) (cut_field (i.rest ++ cs)) _ _ (field_grows i.rest) (λ w.
      and_then_grows data_keys_on data_keys_on (read_data_keys n w.rest) (read_data_keys n (w.rest ++ cs)) _ _ (data_keys_grow n w.rest) (λ hs. one_grows data_keys_on _ _ refl))))

  pub header_grows : (bs : List ℕ) → Grows header_on (read_header bs) (read_header (bs ++ cs))
  unfolding read_header
  header_grows bs =
      and_then_grows cut_on header_on (cut 3 bs) (cut 3 (bs ++ cs)) _ _ (cut_grows 3 bs) (λ v. guard_grows header_on _ _ _
      (and_then_grows cut_on header_on (cut 32 v.rest) (cut 32 (v.rest ++ cs)) _ _ (cut_grows 32 v.rest) (λ i.
      and_then_grows pairs_on header_on (read_context i.rest) (read_context (i.rest ++ cs)) _ _ (context_grows i.rest) (λ c.
      and_then_grows cut_on header_on (cut 2 c.rest) (cut 2 (c.rest ++ cs)) _ _ (cut_grows 2 c.rest) (λ n. guard_grows header_on _ _ _
      (and_then_grows data_keys_on header_on (read_data_keys (of_bytes n.front) n.rest) (read_data_keys (of_bytes n.front) (n.rest ++ cs)) _ _ (data_keys_grow (of_bytes n.front) n.rest) (λ h.
      and_then_grows cut_on header_on (cut 1 h.rest) (cut 1 (h.rest ++ cs)) _ _ (cut_grows 1 h.rest) (λ t. guard_grows header_on _ _ _
      (and_then_grows cut_on header_on (cut 4 t.rest) (cut 4 (t.rest ++ cs)) _ _ (cut_grows 4 t.rest) (λ f. guard_grows header_on _ _ _
      (and_then_grows cut_on header_on (cut 32 f.rest) (cut 32 (f.rest ++ cs)) _ _ (cut_grows 32 f.rest) (λ k.
      and_then_grows cut_on header_on (cut 16 k.rest) (cut 16 (k.rest ++ cs)) _ _ (cut_grows 16 k.rest) (λ g. one_grows header_on _ _ refl)))))))))))))

  regular_grows : (size n : ℕ) (bs : List ℕ) → Grows frame_on (read_regular size n bs) (read_regular size n (bs ++ cs))
  regular_grows size n bs =
      and_then_grows cut_on frame_on (cut 12 bs) (cut 12 (bs ++ cs)) _ _ (cut_grows 12 bs) (λ v. guard_grows frame_on _ _ _
      (and_then_grows cut_on frame_on (cut size v.rest) (cut size (v.rest ++ cs)) _ _ (cut_grows size v.rest) (λ c.
      and_then_grows cut_on frame_on (cut 16 c.rest) (cut 16 (c.rest ++ cs)) _ _ (cut_grows 16 c.rest) (λ t. one_grows frame_on _ _ refl))))

  final_grows : (size n : ℕ) (bs : List ℕ) → Grows frame_on (read_final size n bs) (read_final size n (bs ++ cs))
  final_grows size n bs =
      and_then_grows cut_on frame_on (cut 4 bs) (cut 4 (bs ++ cs)) _ _ (cut_grows 4 bs) (λ m. guard_grows frame_on _ _ _
      (and_then_grows cut_on frame_on (cut 12 m.rest) (cut 12 (m.rest ++ cs)) _ _ (cut_grows 12 m.rest) (λ v. guard_grows frame_on _ _ _
      (and_then_grows cut_on frame_on (cut 4 v.rest) (cut 4 (v.rest ++ cs)) _ _ (cut_grows 4 v.rest) (λ l. guard_grows frame_on _ _ _
      (and_then_grows cut_on frame_on (cut (of_bytes l.front) l.rest) (cut (of_bytes l.front) (l.rest ++ cs)) _ _ (cut_grows (of_bytes l.front) l.rest) (λ c.
      and_then_grows cut_on frame_on (cut 16 c.rest) (cut 16 (c.rest ++ cs)) _ _ (cut_grows 16 c.rest) (λ t. one_grows frame_on _ _ refl))))))))

  pub frame_grows : (size n : ℕ) (bs : List ℕ) → Grows frame_on (read_frame size n bs) (read_frame size n (bs ++ cs))
  frame_grows size n bs =
      and_then_grows cut_on frame_on (cut 4 bs) (cut 4 (bs ++ cs)) _ _ (cut_grows 4 bs) (λ m.
      pick_grows frame_on (eqb (of_bytes m.front) end_marker) _ _ _ _ (final_grows size n m.rest) (guard_grows frame_on _ _ _ (regular_grows size n m.rest)))
