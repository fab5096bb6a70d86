-- When bytes settle what is read from them. These are definitions: they assume nothing.
use Rattle.std.specs.Prelude.{◌≡◌, ℕ, List, [], ◌∷◌, ◌++◌, nat_lt}
use Rattle.octets.specs.Bytes.{bytes_eq, of_bytes}
use Rattle.octets.specs.Cut.{cut, and_then, guard}
use Rattle.format.specs.Request.{Pair, EncryptedDataKey}
use Rattle.format.specs.Reading.{ReadHeader, read_data_keys}

-- none or one, with more bytes behind it
abbrev pub with_more : List ℕ → List ReadHeader → List ReadHeader
with_more more [] = []
with_more more (x ∷ xs) = record { header = x.header; tag = x.tag; rest = x.rest ++ more } ∷ []

-- with more bytes behind, the same is read, and they are left
abbrev pub Settles : List ℕ → (List ℕ → List ReadHeader) → Type 0
Settles bs read = (more : List ℕ) → read (bs ++ more) ≡ with_more more (read bs)

-- the last parts of a header, after what was read before them
abbrev pub read_end : List ℕ → List Pair → List EncryptedDataKey → ℕ → List ℕ → List ReadHeader
read_end id ps ks size bs =
    and_then (cut 32 bs) (λ k. and_then (cut 16 k.rest) (λ g.
    record { header = record { id = id; context = ps; encrypted_data_keys = ks; frame_length = size; commitment = k.front }; tag = g.front; rest = g.rest } ∷ []))

abbrev pub read_tail : List ℕ → List Pair → List EncryptedDataKey → List ℕ → List ReadHeader
read_tail id ps ks bs =
    and_then (cut 1 bs) (λ t. guard (bytes_eq t.front (2 ∷ []))
    (and_then (cut 4 t.rest) (λ f. guard (nat_lt 0 (of_bytes f.front)) (read_end id ps ks (of_bytes f.front) f.rest))))

abbrev pub read_data_keys_on : List ℕ → List Pair → List ℕ → List ReadHeader
read_data_keys_on id ps bs =
    and_then (cut 2 bs) (λ n. guard (nat_lt 0 (of_bytes n.front)) (and_then (read_data_keys (of_bytes n.front) n.rest) (λ h. read_tail id ps h.encrypted_data_keys h.rest)))
