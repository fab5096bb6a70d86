use Rattle.std.proofs.Common.{◌≡◌, ℕ, true, ◌*◌, ◌/◌, List, ◌++◌, length, ap, ◌∙◌, ap₂, arith, length-append}
use Rattle.octets.specs.Bits.{bits_xor}
use Rattle.octets.specs.Bytes.{xor_bytes, to_bytes, all_bytes}
use Rattle.octets.proofs.Numbers.{length-to_bytes}
use Rattle.aes256.specs.Aes.{aes, round_keys}
use Rattle.aes256.proofs.Lengths.{all_bytes-aes}
use Rattle.ghash.specs.Element.{value}
use Rattle.ghash.specs.Field.{product}
use Rattle.ghash.specs.Ghash.{ghash, zero_padded}
use Rattle.ghash.specs.Table.{hash_key_of}
use Rattle.gcm.specs.Key.{key_of}
use Rattle.gcm.proofs.Tags.{lengths_block, three_parts, tag_bytes}
use Rattle.gcm.proofs.tag.compute_tag.Goals as goal

pub returns : goal.returns
unfolding key_of
returns c =
    let key = c.args.key.now in
    let h : ℕ = hash_key_of key.table in
    let aad : List ℕ = c.args.aad.now in
    let cipher : List ℕ = c.args.ciphertext.now in
    let l : List ℕ = to_bytes 8 (8 * length aad) ++ to_bytes 8 (8 * length cipher) in
    let ll : length l ≡ 16 = length-append (to_bytes 8 (8 * length aad)) (to_bytes 8 (8 * length cipher)) ∙ omega (arith, length-to_bytes 8 (8 * length aad), length-to_bytes 8 (8 * length cipher)) in
    let m : List ℕ = zero_padded aad ++ (zero_padded cipher ++ l) in
    let b = c.hash_padded-b.ensures.value ∙ ap (λ k. ghash (length (zero_padded cipher) / 16) h k (zero_padded cipher)) c.hash_padded-a.ensures.value in
    let s : value c.hash_block-hash.result ≡ ghash (length m / 16) h 0 m =
    c.hash_block-hash.ensures.value ∙ (ap₂ (λ p q. product (bits_xor 128 p q) h) b (lengths_block (length aad) (length cipher)) ∙ three_parts h aad cipher l ll) in
    let ks : List ℕ = round_keys (key_of key) in
    let mask = c.encrypt_block-mask in
    let bytes : all_bytes mask.result ≡ true = ap (λ xs. all_bytes xs) mask.ensures.value ∙ all_bytes-aes ks c.counter_block.result in
    c.to_bytes.ensures.value
    ∙ (ap (λ n. to_bytes 16 n) c.add.ensures
    ∙ (tag_bytes (value c.hash_block-hash.result) (value c.from_bytes.result) mask.result (omega arith) (omega arith) (omega arith) bytes c.from_bytes.ensures.value
    ∙ ap₂ (λ p q. xor_bytes (to_bytes 16 p) q) (s ∙ ap (λ k. ghash (length m / 16) k 0 m) key.matching) (mask.ensures.value ∙ ap (λ k. aes ks k) c.counter_block.ensures)))
