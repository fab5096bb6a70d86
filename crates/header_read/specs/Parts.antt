-- The parts of a header as they are read one after another, and what the code's results stand for. These are definitions: they
-- assume nothing.
use Rattle.std.specs.Prelude.{◌≡◌, ℕ, List, [], ◌∷◌, length, Some, None, Option, nat_lt}
use Rattle.std.specs.Borrow.{Bor}
use Rattle.octets.specs.Bytes.{bytes_eq, of_bytes}
use Rattle.octets.specs.Cut.{Cut, cut, and_then, guard, CutNumber, word_cuts}
use Rattle.format.specs.Request as Rq
use Rattle.format.specs.Header as Hd
use Rattle.format.specs.Reading as Rd
use Rattle.format.specs.Request.{rising}
use Rattle.format.specs.Reading.{ReadPairs, read_pairs}
use Rattle.header_read.specs.Cuts.{cut_pair, cut_data_key}
use Rattle.header_read.specs.Cursor.{entries_in}
use Rattle.header_read.specs.declared.entries.Entries.{Entries}
use Rattle.header_read.specs.declared.fields.PairKind.{PairKind}
use Rattle.header_read.specs.declared.fields.DataKeyKind.{DataKeyKind}
use Rattle.header_read.specs.declared.types.Header.{Header}
use Rattle.header_read.specs.declared.types.ReadHeader.{ReadHeader}

-- the pairs of a context, the data keys, and the header that was read
abbrev pub pairs_in : Entries PairKind → List Rq.Pair
pairs_in c = entries_in cut_pair c

abbrev pub data_keys_in : Entries DataKeyKind → List Rq.EncryptedDataKey
data_keys_in k = entries_in cut_data_key k

abbrev pub header_in : Header → Hd.Header
header_in h =
    record { id = h.id.now; context = pairs_in h.context; encrypted_data_keys = data_keys_in h.encrypted_data_keys; frame_length = h.frame_length; commitment = h.commitment.now }

abbrev pub read_header_in : ReadHeader → Rd.ReadHeader
read_header_in x = record { header = header_in x.header; tag = x.tag.now; rest = x.rest.now }

-- results, none or one
abbrev pub context_reads : Option (Entries PairKind × Bor (List ℕ)) → List ReadPairs
context_reads None = []
context_reads (Some c) = record { pairs = pairs_in c.0; rest = c.1.now } ∷ []

abbrev pub frame_length_reads : Option (ℕ × Bor (List ℕ)) → List CutNumber
frame_length_reads r = word_cuts (λ n. n) r

abbrev pub header_reads : Option ReadHeader → List Rd.ReadHeader
header_reads None = []
header_reads (Some x) = read_header_in x ∷ []

-- the parts whose lengths are fixed
pub record FixedLengths (x : ReadHeader) : Type 0 where
  pub id : length x.header.id.now ≡ 32
  pub commitment : length x.header.commitment.now ≡ 32
  pub tag : length x.tag.now ≡ 16

abbrev pub HasFixedLengths : Option ReadHeader → Type 0
HasFixedLengths None = Unit {0}
HasFixedLengths (Some x) = FixedLengths x

-- what comes after n pairs whose names rise
abbrev pub rising_rest : ℕ → List ℕ → List (List ℕ)
rising_rest n bs = and_then (read_pairs n bs) (λ ps. guard (rising ps.pairs) (ps.rest ∷ []))

-- the parts: start and id, content type and frame length
abbrev pub start_part : List ℕ → List Cut
start_part bs = and_then (cut 3 bs) (λ v. guard (bytes_eq v.front (2 ∷ (4 ∷ (120 ∷ [])))) (cut 32 v.rest))

abbrev pub frame_length_part : List ℕ → List CutNumber
frame_length_part bs =
    and_then (cut 1 bs) (λ t. guard (bytes_eq t.front (2 ∷ []))
    (and_then (cut 4 t.rest) (λ f. guard (nat_lt 0 (of_bytes f.front)) (record { value = of_bytes f.front; rest = f.rest } ∷ []))))
