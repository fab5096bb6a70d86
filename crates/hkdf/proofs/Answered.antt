-- The definitions, computed, give the known answers.
use Rattle.std.proofs.Common.{◌≡◌, ℕ, List, [], ◌∷◌, ◌++◌, refl, ap, ◌∙◌}
use Rattle.octets.specs.Bits.{pick, bits_and, bits_xor, pow2}
use Rattle.octets.specs.Bytes.{take, drop, repeat, nth, reversed, to_bytes, number}
use Rattle.sha512.specs.Constants.{constants, initial_state, k0, k1, k2, k3, k4, k5, k6, k7, k8, k9, k10, k11, k12, k13, k14, k15, k16, k17, k18, k19}
use Rattle.sha512.specs.Sha512.{sha512, hash_from, hash_blocks, words_bytes, block_words, extend_words, round, rounds, add_words}
use Rattle.hkdf.specs.Hmac.{each_xor, hmac}
use Rattle.hkdf.specs.Hkdf.{hkdf}
use Rattle.hkdf.specs.MessageKeys.{commit_label}
use Rattle.hkdf.specs.Known.{abc_hash, jefe_mac, jefe_key}

abbrev abc : List ℕ
abc = 97 ∷ 98 ∷ 99 ∷ []

abbrev jefe : List ℕ
jefe = 74 ∷ 101 ∷ 102 ∷ 101 ∷ []

abbrev question : List ℕ
question = 119 ∷ 104 ∷ 97 ∷ 116 ∷ 32 ∷ 100 ∷ 111 ∷ 32 ∷ 121 ∷ 97 ∷ 32 ∷ 119 ∷ 97 ∷ 110 ∷ 116 ∷ 32 ∷ 102 ∷ 111 ∷ 114 ∷ 32 ∷ 110 ∷ 111 ∷ 116 ∷ 104 ∷ 105 ∷ 110 ∷ 103 ∷ 63 ∷ []

computed : (sha512 abc ≡ abc_hash) × (hmac jefe question ≡ jefe_mac) × (take 32 (hmac jefe_mac (commit_label ++ (1 ∷ []))) ≡ jefe_key)
unfolding commit_label pick bits_and bits_xor pow2 take drop repeat nth reversed to_bytes number sha512 hash_from hash_blocks words_bytes initial_state constants k0 k1 k2 k3 k4 k5 k6 k7 k8 k9 k10 k11 k12 k13 k14 k15 k16 k17 k18 k19 block_words extend_words round rounds add_words each_xor hmac
computed = (refl, refl, refl)

pub abc_hashed : sha512 abc ≡ abc_hash
abc_hashed = computed.0

pub jefe_authenticated : hmac jefe question ≡ jefe_mac
jefe_authenticated = computed.1

pub jefe_derived : hkdf jefe question commit_label 32 ≡ jefe_key
unfolding hkdf
jefe_derived = ap (λ (k : List ℕ). take 32 (hmac k (commit_label ++ (1 ∷ [])))) jefe_authenticated ∙ computed.2
