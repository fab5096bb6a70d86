-- Words and blocks in chunks: what the code reads is what the definitions cut off.
use Rattle.std.proofs.Common.{◌≡◌, ℕ, zero, suc, List, ◌∷◌, map, fold, refl, ap, ◌∙◌, ap₂}
use Rattle.std.specs.Simd.{first_chunks}
use Rattle.octets.specs.Bytes.{of_bytes}
use Rattle.octets.proofs.Lists.{take_is, drop_is}
use Rattle.sha512.specs.Sha512.{block_words, compress_block, hash_blocks}

pub block_words_is : (n : ℕ) (bs : List ℕ) → block_words n bs ≡ map of_bytes (first_chunks 8 n bs)
unfolding block_words
block_words_is zero bs = refl
block_words_is (suc n) bs =
    ap₂ (λ (x : List ℕ) (xs : List ℕ). of_bytes x ∷ xs) (take_is 8 bs) (block_words_is n _ ∙ ap (λ (ys : List ℕ). map of_bytes (first_chunks 8 n ys)) (drop_is 8 bs))

pub hash_blocks_is : (n : ℕ) (s bs : List ℕ) → hash_blocks n s bs ≡ fold compress_block s (first_chunks 128 n bs)
unfolding hash_blocks
hash_blocks_is zero s bs = refl
hash_blocks_is (suc n) s bs =
    hash_blocks_is n _ _ ∙ ap₂ (λ (x ys : List ℕ). fold compress_block (compress_block s x) (first_chunks 128 n ys)) (take_is 128 bs) (drop_is 128 bs)
