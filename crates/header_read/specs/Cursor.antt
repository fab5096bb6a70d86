-- What entries in lent bytes stand for, and what is left of them when they are gone through one by one. These are definitions: they
-- assume nothing.
use Rattle.std.specs.Prelude.{ℕ, List, [], ◌∷◌, Some, None, Option}
use Rattle.std.specs.Borrow.{Bor}
use Rattle.format.specs.Request as Rq
use Rattle.header_read.specs.Cuts.{CutEntry, CutEntries, listed, cut_pair, cut_data_key}
use Rattle.header_read.specs.declared.entries.Entries.{Entries}
use Rattle.header_read.specs.declared.fields.PairKind.{PairKind}
use Rattle.header_read.specs.declared.fields.DataKeyKind.{DataKeyKind}
use Rattle.header_read.specs.declared.entries.EntriesLeft.{EntriesLeft}

abbrev pub entries_in : {K A : Type 0} → (List ℕ → List (CutEntry A)) → Entries K → List A
entries_in cut e = listed cut e.count e.bytes.now

abbrev pub entries_cut : {K A : Type 0} → (List ℕ → List (CutEntry A)) → Option (Entries K × Bor (List ℕ)) → List (CutEntries A)
entries_cut cut None = []
entries_cut cut (Some e) = record { entries = entries_in cut e.0; rest = e.1.now } ∷ []

abbrev pub entries_left : {K A : Type 0} → (List ℕ → List (CutEntry A)) → EntriesLeft K → List A
entries_left cut s = entries_in cut s.0

-- the next before those that are left then; none if there was none
abbrev pub taken : {E A : Type 0} → (E → A) → Option E → List A → List A
taken says None es = []
taken says (Some e) es = says e ∷ es

abbrev pub pairs_left : EntriesLeft PairKind → List Rq.Pair
pairs_left s = entries_left cut_pair s

abbrev pub data_keys_left : EntriesLeft DataKeyKind → List Rq.EncryptedDataKey
data_keys_left s = entries_left cut_data_key s
