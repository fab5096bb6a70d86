-- What the checks of a request answer. These are definitions: they assume nothing.
use Rattle.std.specs.Prelude.{◌≡◌, ℕ, ◌+◌, ◌*◌, Bool, cond, ◌&&◌, List, length, Some, None, Ok, Err, Option, Result, ◌==◌, nat_le, nat_lt}
use Rattle.octets.specs.Bits.{pick}
use Rattle.format.specs.Request as Rq
use Rattle.format.specs.Request.{fits_field, rising, short_pairs, pairs_bytes, short_data_keys, data_keys_bytes, end_marker}
use Rattle.format.specs.Header.{header_bytes}
use Rattle.header.specs.Models.{pairs, header_with}
use Rattle.header.specs.Refusal.{refusal_number}
use Rattle.header.specs.declared.refusal.SealRefusal.{SealRefusal}
use Rattle.header.specs.declared.request.HeaderRequest.{HeaderRequest}
use Rattle.header.specs.declared.request.Request.{Request}
use Rattle.header.specs.declared.passed.CheckedHeader.{CheckedHeader}
use Rattle.header.specs.declared.passed.Checked.{Checked}

-- 0 for an answer, or the refusal's number
abbrev pub answer_number : {A : Type 0} → Result A SealRefusal → ℕ
answer_number (Ok a) = 0
answer_number (Err e) = refusal_number e

abbrev pub array_32 : List ℕ → Option (List ℕ)
array_32 bs = cond (length bs == 32) (Some bs) None

-- how many bytes there are, if the test holds
abbrev pub length_if : Bool → List ℕ → Option ℕ
length_if b bs = cond b (Some (length bs)) None

-- the same, if a number of 64 bits can say it
abbrev pub short_length_if : Bool → List ℕ → Option ℕ
short_length_if b bs = length_if (b && nat_lt (length bs) 18446744073709551616) bs

-- how long the pairs' bytes are, if the names rise and each part and all of them fit a field
abbrev pub context_length : List Rq.Pair → Option ℕ
context_length ps = cond ((rising ps && short_pairs ps) && nat_le (2 + length (pairs_bytes ps)) 65535) (Some (length (pairs_bytes ps))) None

abbrev pub short_data_key : Rq.EncryptedDataKey → Bool
short_data_key k = fits_field k.provider_id && (fits_field k.provider_info && fits_field k.ciphertext)

-- how long the data keys' bytes are, if there are some, not too many, and each field fits
abbrev pub data_keys_length : List Rq.EncryptedDataKey → Option ℕ
data_keys_length ks = cond ((nat_lt 0 (length ks) && nat_le (length ks) 65535) && short_data_keys ks) (Some (length (data_keys_bytes ks))) None

-- whether so long a text can be sealed in frames of this length
abbrev pub text_fits : ℕ → ℕ → Bool
text_fits text frame_length = nat_le text (end_marker * frame_length) && nat_lt text 9223372036854775808

-- why a request is refused by what its header says, or 0: whatever its key and its text
abbrev pub header_refusal : Rq.Request → ℕ
header_refusal r =
    pick (length r.id == 32 && (nat_lt 0 r.frame_length && nat_le r.frame_length end_marker))
    (pick ((rising r.context && short_pairs r.context) && nat_le (2 + length (pairs_bytes r.context)) 65535)
    (pick ((nat_lt 0 (length r.encrypted_data_keys) && nat_le (length r.encrypted_data_keys) 65535) && short_data_keys r.encrypted_data_keys) 0 4) 3) 2

-- what is handed on of a header that isn't refused
pub record HandsOnHeader (h : HeaderRequest) (c : CheckedHeader) : Type 0 where
  pub id : c.id ≡ h.id.now
  pub pairs_long : c.pairs_len ≡ length (pairs_bytes (pairs h.context.now))
  pub header_long : (k : List ℕ) → length k ≡ 32 → c.header_len ≡ length (header_bytes (header_with h k))

abbrev pub HeaderChecked : HeaderRequest → Result CheckedHeader SealRefusal → Type 0
HeaderChecked h (Ok c) = HandsOnHeader h c
HeaderChecked h (Err e) = Unit {0}

-- what is handed on of a request that isn't refused
pub record HandsOn (r : Request) (c : Checked) : Type 0 where
  pub key : c.key ≡ r.key.now
  pub header : HandsOnHeader r.header c.header

abbrev pub RequestChecked : Request → Result Checked SealRefusal → Type 0
RequestChecked r (Ok c) = HandsOn r c
RequestChecked r (Err e) = Unit {0}
