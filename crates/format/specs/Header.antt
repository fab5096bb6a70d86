-- Headers as they are written. These are definitions: they assume nothing.
use Rattle.std.specs.Prelude.{ℕ, suc, List, [], ◌∷◌, ◌++◌, length}
use Rattle.octets.specs.Bytes.{to_bytes}
use Rattle.hkdf.specs.MessageKeys.{commitment}
use Rattle.format.specs.Request.{Pair, EncryptedDataKey, Request, field, pairs_bytes, data_keys_bytes}

unfoldable pub context_bytes : List Pair → List ℕ
context_bytes [] = 0 ∷ (0 ∷ [])
context_bytes (p ∷ ps) = field (to_bytes 2 (suc (length ps)) ++ pairs_bytes (p ∷ ps))

pub record Header : Type 0 where
  pub id : List ℕ
  pub context : List Pair
  pub encrypted_data_keys : List EncryptedDataKey
  pub frame_length : ℕ
  pub commitment : List ℕ

-- version 2, suite 4 120, id, context, encrypted data keys, content type 2 (framed), frame length, commitment
abbrev pub header_bytes : Header → List ℕ
header_bytes h =
    (2 ∷ (4 ∷ (120 ∷ []))) ++ (h.id ++ (context_bytes h.context ++ (to_bytes 2 (length h.encrypted_data_keys) ++ (data_keys_bytes h.encrypted_data_keys ++ ((2 ∷ []) ++ (to_bytes 4 h.frame_length ++ h.commitment))))))

abbrev pub header_of : Request → Header
header_of r = record { id = r.id; context = r.context; encrypted_data_keys = r.encrypted_data_keys; frame_length = r.frame_length; commitment = commitment r.key r.id }
