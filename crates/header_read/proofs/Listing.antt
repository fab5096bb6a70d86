-- Entries skipped and listed one after another.
use Rattle.std.proofs.Common.{◌≡◌, ℕ, zero, suc, ltb, List, [], ◌∷◌, length, sym, refl, ap, ◌∙◌, subst, arith}
use Rattle.octets.specs.Cut.{and_then, guard}
use Rattle.octets.proofs.Cuts.{and_then_ext, and_then_assoc}
use Rattle.format.specs.Request as Rq
use Rattle.format.specs.Reading.{ReadPairs, ReadDataKeys, cut_field, read_pairs, read_data_keys}
use Rattle.header_read.proofs.Steps.{First, first_and_then}
use Rattle.header_read.proofs.Walk.{read_pairs_more, with_pair}
use Rattle.header_read.specs.Cuts.{CutEntry, CutEntries, listed, skipped, cut_entries, cut_pair, cut_data_key}

module _ {A : Type 0} (cut : List ℕ → List (CutEntry A)) where
  -- a turn of a loop that skips so many, and its exits
  pub skipped_next : (n k : ℕ) (bs : List ℕ) (e : CutEntry A) → n ≡ suc k → (e ∷ []) ≡ cut bs → skipped cut k e.rest ≡ skipped cut n bs
  unfolding skipped and_then
  skipped_next n k bs e m h = ap (λ xs. and_then xs (λ q. skipped cut k q.rest)) h ∙ ap (λ j. skipped cut j bs) (sym m)

  pub skipped_short : (n k : ℕ) (bs : List ℕ) → n ≡ suc k → [] ≡ cut bs → [] ≡ skipped cut n bs
  unfolding skipped and_then
  skipped_short n k bs m h = ap (λ xs. and_then xs (λ q. skipped cut k q.rest)) h ∙ ap (λ j. skipped cut j bs) (sym m)

  pub skipped_end : (n : ℕ) (bs : List ℕ) → n ≡ 0 → (bs ∷ []) ≡ skipped cut n bs
  unfolding skipped
  skipped_end n bs m = ap (λ j. skipped cut j bs) (sym m)

  -- the next of the list, and that there is none
  pub listed_next : (n k : ℕ) (bs : List ℕ) (e : CutEntry A) → n ≡ suc k → (e ∷ []) ≡ cut bs → (e.entry ∷ listed cut k e.rest) ≡ listed cut n bs
  unfolding listed and_then
  listed_next n k bs e m h = ap (λ xs. and_then xs (λ q. q.entry ∷ listed cut k q.rest)) h ∙ ap (λ j. listed cut j bs) (sym m)

  pub listed_short : (n : ℕ) (bs : List ℕ) → [] ≡ cut bs → [] ≡ listed cut n bs
  unfolding listed and_then
  listed_short zero bs h = refl
  listed_short (suc n) bs h = ap (λ xs. and_then xs (λ q. q.entry ∷ listed cut n q.rest)) h

  pub listed_end : (n : ℕ) (bs : List ℕ) → n ≡ 0 → [] ≡ listed cut n bs
  unfolding listed
  listed_end n bs m = ap (λ j. listed cut j bs) (sym m)

  abbrev pub counted_of : ℕ → List ℕ → List (CutEntries A)
  counted_of n bs = guard (ltb 0 n) (cut_entries cut n bs)

  -- as many as were cut off
  pub counted : (n : ℕ) (bs r : List ℕ) (rs : List (List ℕ)) → r ∷ rs ≡ skipped cut n bs → length (listed cut n bs) ≡ n
  unfolding listed skipped and_then
  counted zero bs r rs e = refl
  counted (suc n) bs r rs e = go (cut bs) e (λ q h. counted n q.rest r rs h)
    where
      go : (xs : List (CutEntry A)) → r ∷ rs ≡ and_then xs (λ q. skipped cut n q.rest) → ((q : CutEntry A) → r ∷ rs ≡ skipped cut n q.rest → length (listed cut n q.rest) ≡ n) → length (and_then xs (λ q. q.entry ∷ listed cut n q.rest)) ≡ suc n
      go [] e h = absurd (let z : ◌≡◌ {A = ℕ} 0 1 = cc in omega arith)
      go (q ∷ qs) e h = ap suc (h q e)

  -- a reader that makes its result of entries read one after another makes it of those that are cut off
  module _ {R : Type 0} (read : ℕ → List ℕ → List R) (made : List A → List ℕ → R) (more : A → R → R) where
    abbrev of_entries : CutEntries A → List R
    of_entries es = made es.entries es.rest ∷ []

    abbrev the_entries : List A → List ℕ → List (CutEntries A)
    the_entries es r = record { entries = es; rest = r } ∷ []

    one_more : (n : ℕ) (xs : List (CutEntry A))
        → and_then xs (λ e. and_then (and_then (skipped cut n e.rest) (the_entries (listed cut n e.rest))) (λ es. made (e.entry ∷ es.entries) es.rest ∷ []))
        ≡ and_then (and_then (and_then xs (λ e. skipped cut n e.rest)) (the_entries (and_then xs (λ e. e.entry ∷ listed cut n e.rest)))) of_entries
    unfolding and_then
    one_more n [] = refl
    one_more n (e ∷ t) = and_then_assoc (skipped cut n e.rest) _ _ ∙ sym (and_then_assoc (skipped cut n e.rest) _ of_entries)

    pub entries_read : ((bs : List ℕ) → read 0 bs ≡ made [] bs ∷ [])
        → ((n : ℕ) (bs : List ℕ) → read (suc n) bs ≡ and_then (cut bs) (λ e. and_then (read n e.rest) (λ x. more e.entry x ∷ [])))
        → ((a : A) (es : List A) (r : List ℕ) → more a (made es r) ≡ made (a ∷ es) r)
        → (n : ℕ) (bs : List ℕ) → read n bs ≡ and_then (cut_entries cut n bs) of_entries
    unfolding and_then skipped listed
    entries_read z s m zero bs = z bs
    entries_read z s m (suc n) bs =
        s n bs
        ∙ and_then_ext (cut bs) _ _ (λ e.
        ap (λ xs. and_then xs (λ x. more e.entry x ∷ [])) (entries_read z s m n e.rest)
        ∙ and_then_assoc (cut_entries cut n e.rest) _ _
        ∙ and_then_ext (cut_entries cut n e.rest) _ _ (λ es. ap (λ x. x ∷ []) (m e.entry es.entries es.rest)))
        ∙ one_more n (cut bs)

-- pairs and data keys
abbrev pub pairs_made : CutEntries Rq.Pair → List ReadPairs
pairs_made ps = record { pairs = ps.entries; rest = ps.rest } ∷ []

pub pairs_read : (n : ℕ) (bs : List ℕ) → read_pairs n bs ≡ and_then (cut_entries cut_pair n bs) pairs_made
unfolding read_pairs and_then
pairs_read =
    entries_read cut_pair read_pairs (λ ps r. record { pairs = ps; rest = r }) (λ p ps. record { pairs = p ∷ ps.pairs; rest = ps.rest }) (λ bs. refl)
    (λ n bs. sym (and_then_assoc (cut_field bs) _ _ ∙ and_then_ext (cut_field bs) _ _ (λ k. and_then_assoc (cut_field k.rest) _ _)))
    (λ p ps r. refl)

abbrev pub data_keys_made : CutEntries Rq.EncryptedDataKey → List ReadDataKeys
data_keys_made ks = record { encrypted_data_keys = ks.entries; rest = ks.rest } ∷ []

pub data_keys_read : (n : ℕ) (bs : List ℕ) → read_data_keys n bs ≡ and_then (cut_entries cut_data_key n bs) data_keys_made
unfolding read_data_keys and_then
data_keys_read =
    entries_read cut_data_key read_data_keys (λ ks r. record { encrypted_data_keys = ks; rest = r }) (λ k ks. record { encrypted_data_keys = k ∷ ks.encrypted_data_keys; rest = ks.rest }) (λ bs. refl)
    (λ n bs. sym (and_then_assoc (cut_field bs) _ _ ∙ and_then_ext (cut_field bs) _ _ (λ p. and_then_assoc (cut_field p.rest) _ _ ∙ and_then_ext (cut_field p.rest) _ _ (λ i. and_then_assoc (cut_field i.rest) _ _))))
    (λ k ks r. refl)

-- what is read is what is listed, and as many
each_pair : (n : ℕ) (xs : List (CutEntry Rq.Pair)) → ((bs : List ℕ) → First (λ ps. (listed cut_pair n bs ≡ ps.pairs) × (length ps.pairs ≡ n)) (read_pairs n bs)) → First (λ ps. (and_then xs (λ p. p.entry ∷ listed cut_pair n p.rest) ≡ ps.pairs) × (length ps.pairs ≡ suc n)) (and_then xs (λ p. and_then (read_pairs n p.rest) (λ ps. with_pair p.entry ps ∷ [])))
unfolding and_then
each_pair n [] h = tt
each_pair n (p ∷ t) h = first_and_then (λ ps. (listed cut_pair n p.rest ≡ ps.pairs) × (length ps.pairs ≡ n)) _ (read_pairs n p.rest) _ (h p.rest) (λ ps e. (ap (λ l. p.entry ∷ l) e.0, ap suc e.1))

pub pairs_listed : (n : ℕ) (bs : List ℕ) → First (λ ps. (listed cut_pair n bs ≡ ps.pairs) × (length ps.pairs ≡ n)) (read_pairs n bs)
unfolding listed read_pairs
pairs_listed zero bs = (refl, refl)
pairs_listed (suc n) bs = subst (First (λ ps. (listed cut_pair (suc n) bs ≡ ps.pairs) × (length ps.pairs ≡ suc n))) (sym (read_pairs_more n bs)) (each_pair n (cut_pair bs) (λ r. pairs_listed n r))
