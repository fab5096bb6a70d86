-- Pairs and encrypted data keys cut off the front of bytes, and listed one by one. These are definitions: they assume nothing.
use Rattle.std.specs.Prelude.{ℕ, zero, suc, List, [], ◌∷◌, Some, None, Option, nat_lt}
use Rattle.std.specs.Borrow.{Bor}
use Rattle.octets.specs.Bytes.{of_bytes}
use Rattle.octets.specs.Cut.{cut, and_then, guard}
use Rattle.format.specs.Request as Rq
use Rattle.format.specs.Reading.{cut_field}

-- an entry at the front, and what comes after
pub record CutEntry (A : Type 0) : Type 0 where
  pub entry : A
  pub rest : List ℕ

abbrev pub entry_cuts : {E A : Type 0} → (E → A) → Option (E × Bor (List ℕ)) → List (CutEntry A)
entry_cuts says None = []
entry_cuts says (Some e) = record { entry = says e.0; rest = e.1.now } ∷ []

-- as many as there are, at most n
unfoldable pub listed : {A : Type 0} → (List ℕ → List (CutEntry A)) → ℕ → List ℕ → List A
listed cut zero bs = []
listed cut (suc n) bs = and_then (cut bs) (λ e. e.entry ∷ listed cut n e.rest)

-- what comes after n of them; none if there are fewer
unfoldable pub skipped : {A : Type 0} → (List ℕ → List (CutEntry A)) → ℕ → List ℕ → List (List ℕ)
skipped cut zero bs = bs ∷ []
skipped cut (suc n) bs = and_then (cut bs) (λ e. skipped cut n e.rest)

-- n of them at the front, and what comes after; none if there are fewer
pub record CutEntries (A : Type 0) : Type 0 where
  pub entries : List A
  pub rest : List ℕ

abbrev pub cut_entries : {A : Type 0} → (List ℕ → List (CutEntry A)) → ℕ → List ℕ → List (CutEntries A)
cut_entries cut n bs = and_then (skipped cut n bs) (λ r. record { entries = listed cut n bs; rest = r } ∷ [])

-- a count of two bytes, which isn't 0, and so many of them
abbrev pub cut_counted : {A : Type 0} → (List ℕ → List (CutEntry A)) → List ℕ → List (CutEntries A)
cut_counted cut_one bs = and_then (cut 2 bs) (λ n. guard (nat_lt 0 (of_bytes n.front)) (cut_entries cut_one (of_bytes n.front) n.rest))

-- a pair at the front
abbrev pub cut_pair : List ℕ → List (CutEntry Rq.Pair)
cut_pair bs =
    and_then (cut_field bs) (λ k. and_then (cut_field k.rest) (λ v. record { entry = record { name = k.front; value = v.front }; rest = v.rest } ∷ []))

-- a data key at the front
abbrev pub cut_data_key : List ℕ → List (CutEntry Rq.EncryptedDataKey)
cut_data_key bs =
    and_then (cut_field bs) (λ p. and_then (cut_field p.rest) (λ i. and_then (cut_field i.rest) (λ w.
    record { entry = record { provider_id = p.front; provider_info = i.front; ciphertext = w.front }; rest = w.rest } ∷ [])))

-- what is left of bytes
abbrev pub rests : Option (Bor (List ℕ)) → List (List ℕ)
rests None = []
rests (Some r) = r.now ∷ []
