-- What FIPS 197 prints, computed from the definitions.
use Rattle.std.proofs.Common.{◌≡◌, ℕ, ◌<◌, get_or, sym, refl}
use Rattle.octets.specs.Bits.{pick, bits_xor, pow2}
use Rattle.octets.specs.Bytes.{nth, take, drop, xor_bytes}
use Rattle.aes256.specs.Field.{mul_steps}
use Rattle.aes256.specs.Aes.{sub_byte, sub_bytes, mix_columns, rcon, word_at, expand_words, key_words, joined, round_keys, cipher_rounds, aes}
use Rattle.aes256.specs.Examples.{printed_sbox, example_key, example_plaintext, example_ciphertext}
use Rattle.aes256.proofs.TableRules.{sbox, sbox_entry}

sbox_printed : sbox ≡ printed_sbox
unfolding sbox printed_sbox sub_byte pick bits_xor pow2 mul_steps
sbox_printed = refl

pub sub_byte_printed : (k : ℕ) → k < 256 → sub_byte k ≡ get_or printed_sbox k 0
sub_byte_printed k h = rw (sym sbox_printed) (sym (sbox_entry k h))

pub example_printed : aes (round_keys example_key) example_plaintext ≡ example_ciphertext
unfolding example_key example_plaintext example_ciphertext sub_byte pick bits_xor pow2 mul_steps nth take drop xor_bytes sub_bytes mix_columns rcon word_at expand_words key_words joined cipher_rounds aes
example_printed = refl
