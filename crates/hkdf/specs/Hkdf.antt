-- HKDF (RFC 5869) over SHA-512, with one block of output: up to 64 bytes. These are definitions: they assume nothing.
use Rattle.std.specs.Prelude.{ℕ, List, [], ◌∷◌, ◌++◌}
use Rattle.octets.specs.Bytes.{take}
use Rattle.hkdf.specs.Hmac.{hmac}

unfoldable pub hkdf : List ℕ → List ℕ → List ℕ → ℕ → List ℕ
hkdf salt key info n = take n (hmac (hmac salt key) (info ++ (1 ∷ [])))
