-- What one call answers, and what it leaves in the lent bytes.
use Rattle.std.specs.Prelude.{◌≡◌, ℕ, Bool, false, List, [], ◌∷◌, length, Some, None, Option, ◌≢◌}
use Rattle.octets.specs.Bits.{pick}
use Rattle.gcm.specs.Gcm.{seal, unseal}

-- sealed: the lent bytes were as many as the text's, and are the ciphertext now
pub record SealedAs (key nonce aad text old tag out : List ℕ) : Type 0 where
  pub room : length old ≡ length text
  pub ciphertext : out ≡ (seal key nonce aad text).ciphertext
  pub tag_is : tag ≡ (seal key nonce aad text).tag

-- not sealed: they weren't as many, and are as they were
pub record NotSealed (text old out : List ℕ) : Type 0 where
  pub lacks : length old ≡ length text → ⊥
  pub holds : out ≡ old

abbrev pub Seals : (key nonce aad text old : List ℕ) → Option (List ℕ) → List ℕ → Type 0
Seals key nonce aad text old (Some tag) out = SealedAs key nonce aad text old tag out
Seals key nonce aad text old None out = NotSealed text old out

-- opened or not: where the lent bytes are as many as the ciphertext's, what they hold once opened is what unsealing gives, and a refusal is none;
-- where they aren't, it is refused; and then they are as they were
pub record Opens (key nonce aad ciphertext tag old : List ℕ) (r : Bool) (out : List ℕ) : Type 0 where
  pub text : length old ≡ length ciphertext → pick r (out ∷ []) [] ≡ unseal key nonce aad (record { ciphertext = ciphertext; tag = tag })
  pub lacks : (length old ≢ length ciphertext) → r ≡ false
  pub holds : r ≡ false → out ≡ old
