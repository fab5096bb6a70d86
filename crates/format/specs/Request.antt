-- Requests to seal, and why one is refused. These are definitions: they assume nothing.
use Rattle.std.specs.Prelude.{ℕ, ◌+◌, ◌*◌, Bool, true, ◌&&◌, List, [], ◌∷◌, ◌++◌, length, ◌==◌, nat_le, nat_lt}
use Rattle.octets.specs.Bits.{pick}
use Rattle.octets.specs.Bytes.{bytes_lt, to_bytes, all_bytes}

-- a pair of the encryption context
pub record Pair : Type 0 where
  pub name : List ℕ
  pub value : List ℕ

-- a data key as some provider encrypted it
pub record EncryptedDataKey : Type 0 where
  pub provider_id : List ℕ
  pub provider_info : List ℕ
  pub ciphertext : List ℕ

-- key is the data key; id is to be used for one message only
pub record Request : Type 0 where
  pub key : List ℕ
  pub id : List ℕ
  pub context : List Pair
  pub encrypted_data_keys : List EncryptedDataKey
  pub frame_length : ℕ
  pub text : List ℕ

-- a field: two bytes of length, and the bytes
abbrev pub field : List ℕ → List ℕ
field t = to_bytes 2 (length t) ++ t

unfoldable pub pairs_bytes : List Pair → List ℕ
pairs_bytes [] = []
pairs_bytes (p ∷ ps) = field p.name ++ (field p.value ++ pairs_bytes ps)

unfoldable pub data_keys_bytes : List EncryptedDataKey → List ℕ
data_keys_bytes [] = []
data_keys_bytes (h ∷ hs) = field h.provider_id ++ (field h.provider_info ++ (field h.ciphertext ++ data_keys_bytes hs))

-- names in strictly rising order, so each once
unfoldable pub rising : List Pair → Bool
rising [] = true
rising (p ∷ []) = true
rising (p ∷ (q ∷ qs)) = bytes_lt p.name q.name && rising (q ∷ qs)

abbrev pub fits_field : List ℕ → Bool
fits_field t = nat_le (length t) 65535

unfoldable pub short_pairs : List Pair → Bool
short_pairs [] = true
short_pairs (p ∷ ps) = (fits_field p.name && fits_field p.value) && short_pairs ps

unfoldable pub short_data_keys : List EncryptedDataKey → Bool
short_data_keys [] = true
short_data_keys (h ∷ hs) = (fits_field h.provider_id && (fits_field h.provider_info && fits_field h.ciphertext)) && short_data_keys hs

-- the number that marks a final frame; also the largest number a frame can have, and the largest frame length
unfoldable pub end_marker : ℕ
end_marker = 4294967295

-- why a request is refused, or 0: 2 a key or an id that hasn't 32 bytes, or a frame length out of range; 3 names out of order, or a context too long;
-- 4 no encrypted data key, too many, or one too long; 5 a text of too many frames or bytes
abbrev pub seal_refusal : Request → ℕ
seal_refusal r =
    pick ((length r.key == 32 && length r.id == 32) && (nat_lt 0 r.frame_length && nat_le r.frame_length end_marker))
    (pick ((rising r.context && short_pairs r.context) && nat_le (2 + length (pairs_bytes r.context)) 65535)
    (pick ((nat_lt 0 (length r.encrypted_data_keys) && nat_le (length r.encrypted_data_keys) 65535) && short_data_keys r.encrypted_data_keys)
    (pick (nat_le (length r.text) (end_marker * r.frame_length) && nat_lt (length r.text) 9223372036854775808) 0 5)
    4)
    3)
    2

-- everything in it is bytes, and the frame length a number of 32 bits
unfoldable pub all_bytes_pairs : List Pair → Bool
all_bytes_pairs [] = true
all_bytes_pairs (p ∷ ps) = (all_bytes p.name && all_bytes p.value) && all_bytes_pairs ps

unfoldable pub all_bytes_data_keys : List EncryptedDataKey → Bool
all_bytes_data_keys [] = true
all_bytes_data_keys (h ∷ hs) = (all_bytes h.provider_id && (all_bytes h.provider_info && all_bytes h.ciphertext)) && all_bytes_data_keys hs

abbrev pub well_formed : Request → Bool
well_formed r = (all_bytes r.key && all_bytes r.id) && ((all_bytes_pairs r.context && all_bytes_data_keys r.encrypted_data_keys) && (all_bytes r.text && nat_lt r.frame_length 4294967296))
