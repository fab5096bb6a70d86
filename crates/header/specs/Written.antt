-- Headers and their parts as they are written into lent bytes. These are definitions: they assume nothing.
use Rattle.std.specs.Prelude.{◌≡◌, ℕ, Bool, ◌&&◌, List, [], ◌++◌, length, Ok, Err, Result, ◌==◌, nat_le}
use Rattle.octets.specs.Bits.{pick}
use Rattle.octets.specs.Splice.{Written}
use Rattle.format.specs.Request as Rq
use Rattle.format.specs.Request.{field, fits_field}
use Rattle.format.specs.Header.{header_bytes}
use Rattle.header.specs.Models.{header_with, request_with}
use Rattle.header.specs.Checked.{header_refusal}
use Rattle.header.specs.declared.refusal.SealRefusal.{SealRefusal}
use Rattle.header.specs.declared.request.HeaderRequest.{HeaderRequest}

-- one pair's bytes, and whether each part fits
abbrev pub pair_bytes : Rq.Pair → List ℕ
pair_bytes p = field p.name ++ field p.value

abbrev pub short_pair : Rq.Pair → Bool
short_pair p = fits_field p.name && fits_field p.value

-- one data key's bytes
abbrev pub data_key_bytes : Rq.EncryptedDataKey → List ℕ
data_key_bytes k = field k.provider_id ++ (field k.provider_info ++ field k.ciphertext)

-- the bytes of the header that is asked for, with its commitment
abbrev pub asked_bytes : HeaderRequest → List ℕ → List ℕ
asked_bytes h c = header_bytes (header_with h c)

-- the number of the refusal to write a header into so many bytes, or 0
abbrev pub write_refusal : HeaderRequest → List ℕ → ℕ → ℕ
write_refusal h c room =
    pick (header_refusal (request_with [] h []) == 0) (pick (nat_le (length (asked_bytes h c)) room) 0 1) (header_refusal (request_with [] h []))

-- what the lent bytes hold after: the header from the front on and what they held behind it, or all that they held
abbrev pub HeaderWritten : HeaderRequest → List ℕ → List ℕ → Result ℕ SealRefusal → List ℕ → Type 0
HeaderWritten h c old (Ok n) out = Written old 0 (asked_bytes h c) n out
HeaderWritten h c old (Err e) out = out ≡ old
