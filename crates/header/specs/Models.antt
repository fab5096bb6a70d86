-- What requests in code stand for. These are definitions: they assume nothing.
use Rattle.std.specs.Prelude.{ℕ, List, [], ◌∷◌}
use Rattle.format.specs.Request as Rq
use Rattle.format.specs.Header as Hd
use Rattle.header.specs.declared.request.Pair.{Pair}
use Rattle.header.specs.declared.request.EncryptedDataKey.{EncryptedDataKey}
use Rattle.header.specs.declared.request.HeaderRequest.{HeaderRequest}
use Rattle.header.specs.declared.request.Request.{Request}

abbrev pub pair : Pair → Rq.Pair
pair p = record { name = p.name.now; value = p.value.now }

abbrev pub pairs : List Pair → List Rq.Pair
pairs [] = []
pairs (p ∷ ps) = pair p ∷ pairs ps

abbrev pub data_key : EncryptedDataKey → Rq.EncryptedDataKey
data_key k = record { provider_id = k.provider_id.now; provider_info = k.provider_info.now; ciphertext = k.ciphertext.now }

abbrev pub data_keys : List EncryptedDataKey → List Rq.EncryptedDataKey
data_keys [] = []
data_keys (k ∷ ks) = data_key k ∷ data_keys ks

-- the header that is asked for, with its commitment
abbrev pub header_with : HeaderRequest → List ℕ → Hd.Header
header_with h c =
    record { id = h.id.now; context = pairs h.context.now; encrypted_data_keys = data_keys h.encrypted_data_keys.now; frame_length = h.frame_length; commitment = c }

-- the request that is made of a key, a header and a text
abbrev pub request_with : List ℕ → HeaderRequest → List ℕ → Rq.Request
request_with k h t =
    record { key = k; id = h.id.now; context = pairs h.context.now; encrypted_data_keys = data_keys h.encrypted_data_keys.now; frame_length = h.frame_length; text = t }

abbrev pub request_of : Request → Rq.Request
request_of r = request_with r.key.now r.header r.text.now
