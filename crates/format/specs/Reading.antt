-- Headers and frames as they are read: none or one. These are definitions: they assume nothing.
use Rattle.std.specs.Prelude.{ℕ, zero, suc, Bool, true, false, ◌&&◌, List, [], ◌∷◌, length, ◌==◌, nat_le, nat_lt}
use Rattle.octets.specs.Bits.{pick}
use Rattle.octets.specs.Bytes.{bytes_eq, to_bytes, of_bytes}
pub use Rattle.octets.specs.Cut.{Cut, cut}
unfoldable pub use Rattle.octets.specs.Cut.{and_then, guard}
use Rattle.gcm.specs.Gcm.{Sealed}
use Rattle.format.specs.Request.{Pair, EncryptedDataKey, rising, end_marker}
use Rattle.format.specs.Header.{Header}

-- a field cut off the front: two bytes of length, then as many bytes
abbrev pub cut_field : List ℕ → List Cut
cut_field bs = and_then (cut 2 bs) (λ c. cut (of_bytes c.front) c.rest)

pub record ReadPairs : Type 0 where
  pub pairs : List Pair
  pub rest : List ℕ

unfoldable pub read_pairs : ℕ → List ℕ → List ReadPairs
read_pairs zero bs = record { pairs = []; rest = bs } ∷ []
read_pairs (suc n) bs =
    and_then (cut_field bs) (λ k. and_then (cut_field k.rest) (λ v. and_then (read_pairs n v.rest) (λ ps.
    record { pairs = record { name = k.front; value = v.front } ∷ ps.pairs; rest = ps.rest } ∷ [])))

abbrev pub is_empty : List ℕ → Bool
is_empty bs = length bs == 0

abbrev pub read_context : List ℕ → List ReadPairs
read_context bs =
    and_then (cut_field bs) (λ c.
    pick (is_empty c.front) (record { pairs = []; rest = c.rest } ∷ [])
    (and_then (cut 2 c.front) (λ n. and_then (read_pairs (of_bytes n.front) n.rest) (λ ps.
    guard (is_empty ps.rest && (nat_lt 0 (length ps.pairs) && rising ps.pairs)) (record { pairs = ps.pairs; rest = c.rest } ∷ [])))))

pub record ReadDataKeys : Type 0 where
  pub encrypted_data_keys : List EncryptedDataKey
  pub rest : List ℕ

unfoldable pub read_data_keys : ℕ → List ℕ → List ReadDataKeys
read_data_keys zero bs = record { encrypted_data_keys = []; rest = bs } ∷ []
read_data_keys (suc n) bs =
    and_then (cut_field bs) (λ p. and_then (cut_field p.rest) (λ i. and_then (cut_field i.rest) (λ w. and_then (read_data_keys n w.rest) (λ hs.
    record { encrypted_data_keys = record { provider_id = p.front; provider_info = i.front; ciphertext = w.front } ∷ hs.encrypted_data_keys; rest = hs.rest } ∷ []))))

pub record ReadHeader : Type 0 where
  pub header : Header
  pub tag : List ℕ
  pub rest : List ℕ

-- the header of a message, its tag, and what comes after; none if the bytes begin with no header
unfoldable pub read_header : List ℕ → List ReadHeader
read_header bs =
    and_then (cut 3 bs) (λ v. guard (bytes_eq v.front (2 ∷ (4 ∷ (120 ∷ []))))
    (and_then (cut 32 v.rest) (λ i. and_then (read_context i.rest) (λ c. and_then (cut 2 c.rest) (λ n. guard (nat_lt 0 (of_bytes n.front))
    (and_then (read_data_keys (of_bytes n.front) n.rest) (λ h. and_then (cut 1 h.rest) (λ t. guard (bytes_eq t.front (2 ∷ []))
    (and_then (cut 4 t.rest) (λ f. guard (nat_lt 0 (of_bytes f.front))
    (and_then (cut 32 f.rest) (λ k. and_then (cut 16 k.rest) (λ g.
    record { header = record { id = i.front; context = c.pairs; encrypted_data_keys = h.encrypted_data_keys; frame_length = of_bytes f.front; commitment = k.front }; tag = g.front; rest = g.rest } ∷ [])))))))))))))

pub record ReadFrame : Type 0 where
  pub last : Bool
  pub sealed : Sealed
  pub rest : List ℕ

-- the next frame, which has to be number n
abbrev pub read_regular : ℕ → ℕ → List ℕ → List ReadFrame
read_regular size n bs =
    and_then (cut 12 bs) (λ v. guard (bytes_eq v.front (to_bytes 12 n)) (and_then (cut size v.rest) (λ c. and_then (cut 16 c.rest) (λ t.
    record { last = false; sealed = record { ciphertext = c.front; tag = t.front }; rest = t.rest } ∷ []))))

abbrev pub read_final : ℕ → ℕ → List ℕ → List ReadFrame
read_final size n bs =
    and_then (cut 4 bs) (λ m. guard (of_bytes m.front == n) (and_then (cut 12 m.rest) (λ v. guard (bytes_eq v.front (to_bytes 12 n)) (and_then (cut 4 v.rest) (λ l.
    guard (nat_le (of_bytes l.front) size) (and_then (cut (of_bytes l.front) l.rest) (λ c. and_then (cut 16 c.rest) (λ t.
    record { last = true; sealed = record { ciphertext = c.front; tag = t.front }; rest = t.rest } ∷ []))))))))

abbrev pub read_frame : ℕ → ℕ → List ℕ → List ReadFrame
read_frame size n bs =
    and_then (cut 4 bs) (λ m. pick (of_bytes m.front == end_marker) (read_final size n m.rest) (guard (of_bytes m.front == n && nat_lt n end_marker) (read_regular size n m.rest)))
