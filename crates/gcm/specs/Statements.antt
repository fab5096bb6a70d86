-- The statement about one call. It is a type whose proof is owed.
use Rattle.std.specs.Prelude.{◌≡◌, ℕ, true, List, [], ◌∷◌, length}
use Rattle.octets.specs.Bytes.{all_bytes}
use Rattle.gcm.specs.Gcm.{seal, unseal}

-- opening a sealed piece gives the text
unfoldable pub OpenUndoesSeal : Type 0
OpenUndoesSeal =
    (key nonce aad text : List ℕ) → all_bytes key ≡ true → length key ≡ 32 → all_bytes nonce ≡ true → length nonce ≡ 12 → all_bytes aad ≡ true → all_bytes text ≡ true →
    unseal key nonce aad (seal key nonce aad text) ≡ text ∷ []
