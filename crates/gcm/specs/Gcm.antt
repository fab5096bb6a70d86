-- Galois/Counter Mode over AES-256, with nonces of 12 bytes and tags of 16 (SP 800-38D). These are definitions: they assume nothing.
use Rattle.std.specs.Prelude.{ℕ, zero, suc, ◌+◌, ◌*◌, ◌/◌, List, [], ◌∷◌, ◌++◌, length}
use Rattle.octets.specs.Bits.{pick}
use Rattle.octets.specs.Bytes.{bytes_eq, take, drop, repeat, xor_bytes, to_bytes, of_bytes}
use Rattle.aes256.specs.Aes.{round_keys, aes}
use Rattle.ghash.specs.Ghash.{ghash, zero_padded}

-- the tag of additional data and ciphertext
abbrev pub tag_of : List ℕ → List ℕ → List ℕ → List ℕ → List ℕ
tag_of ks nonce aad cipher =
    let m : List ℕ = zero_padded aad ++ (zero_padded cipher ++ (to_bytes 8 (8 * length aad) ++ to_bytes 8 (8 * length cipher))) in
    xor_bytes (to_bytes 16 (ghash (length m / 16) (of_bytes (aes ks (repeat 16 0))) 0 m)) (aes ks (nonce ++ to_bytes 4 1))

-- counter mode from counter c on
unfoldable pub ctr_blocks : ℕ → ℕ → List ℕ → List ℕ → List ℕ → List ℕ
ctr_blocks zero c ks nonce bs = []
ctr_blocks (suc n) c ks nonce bs = xor_bytes (take 16 bs) (aes ks (nonce ++ to_bytes 4 c)) ++ ctr_blocks n (suc c) ks nonce (drop 16 bs)

abbrev pub ctr : List ℕ → List ℕ → List ℕ → List ℕ
ctr ks nonce bs = ctr_blocks ((length bs + 15) / 16) 2 ks nonce bs

-- sealed: as many bytes as the text, and a tag of 16
pub record Sealed : Type 0 where
  pub ciphertext : List ℕ
  pub tag : List ℕ

abbrev pub seal : List ℕ → List ℕ → List ℕ → List ℕ → Sealed
seal key nonce aad text =
    let ks : List ℕ = round_keys key in
    let c : List ℕ = ctr ks nonce text in
    record { ciphertext = c; tag = tag_of ks nonce aad c }

-- opened: the text, or none where the tag isn't right
abbrev pub unseal : List ℕ → List ℕ → List ℕ → Sealed → List (List ℕ)
unseal key nonce aad s =
    let ks : List ℕ = round_keys key in
    pick (bytes_eq (tag_of ks nonce aad s.ciphertext) s.tag) (ctr ks nonce s.ciphertext ∷ []) []
