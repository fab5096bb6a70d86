-- The cipher, kept shut: what is proved of frames looks no further than these names. These are definitions: they assume nothing.
use Rattle.std.specs.Prelude.{ℕ, List, []}
use Rattle.octets.specs.Bytes.{repeat}
use Rattle.gcm.specs.Gcm.{Sealed, seal, unseal}

unfoldable pub sealed : List ℕ → List ℕ → List ℕ → List ℕ → Sealed
sealed key nonce aad text = seal key nonce aad text

unfoldable pub unsealed : List ℕ → List ℕ → List ℕ → Sealed → List (List ℕ)
unsealed key nonce aad s = unseal key nonce aad s

-- the tag of a header: that of no text, with the header as additional data and a nonce of zeros
unfoldable pub header_tag : List ℕ → List ℕ → List ℕ
header_tag key header = (seal key (repeat 12 0) header []).tag
