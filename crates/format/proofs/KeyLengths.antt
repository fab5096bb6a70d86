-- The two keys of a message, its sealing key and its commitment, have 32 bytes.
use Rattle.std.proofs.Common.{◌≡◌, ℕ, zero, suc, ◌*◌, ◌/◌, ◌≤◌, List, [], ◌∷◌, ◌++◌, length, refl, ap, ◌∙◌, arith, length-append, length-take-le}
use Rattle.octets.specs.Bytes.{drop, reversed, take, to_bytes}
use Rattle.octets.proofs.Lists.{length-take, take_is}
use Rattle.octets.proofs.Numbers.{length-to_bytes}
use Rattle.sha512.specs.Constants.{constants, initial_state}
use Rattle.sha512.specs.Sha512.{add_words, block_words, extend_words, final_state, hash_blocks, hash_from, padded, round, rounds, sha512, words_bytes}
use Rattle.hkdf.specs.Hkdf.{hkdf}
use Rattle.hkdf.specs.Hmac.{block_key, each_xor, hmac}
use Rattle.hkdf.specs.MessageKeys.{commit_label, commitment, derive_label, sealing_key}

length_rounds : (s ks ws : List ℕ) → length s ≡ 8 → length (rounds s ks ws) ≡ 8
unfolding rounds round
length_rounds s [] ws h = h
length_rounds s (k ∷ ks) [] h = h
length_rounds s (k ∷ ks) (w ∷ ws) h = length_rounds (round s k w) ks ws refl

length_sums : (xs ys : List ℕ) → length xs ≤ length ys → length (add_words xs ys) ≡ length xs
unfolding add_words
length_sums [] ys h = refl
length_sums (x ∷ xs) [] h = absurd (omega arith)
length_sums (x ∷ xs) (y ∷ ys) h = ap suc (length_sums xs ys (omega arith))

length_blocks : (n : ℕ) (s bs : List ℕ) → length s ≡ 8 → length (hash_blocks n s bs) ≡ 8
unfolding hash_blocks
length_blocks zero s bs h = h
length_blocks (suc n) s bs h =
    let ws : List ℕ = reversed (extend_words 64 (reversed (block_words 16 (take 128 bs)))) in
    let l = length_rounds s constants ws h in
    length_blocks n (add_words s (rounds s constants ws)) (drop 128 bs) (length_sums s (rounds s constants ws) (omega arith) ∙ h)

length_bytes_of : (ws : List ℕ) → length (words_bytes ws) ≡ 8 * length ws
unfolding words_bytes
length_bytes_of [] = refl
length_bytes_of (w ∷ ws) = let i = length_bytes_of ws in let l = length-to_bytes 8 w in length-append (to_bytes 8 w) (words_bytes ws) ∙ omega arith

length_sha : (m : List ℕ) → length (sha512 m) ≡ 64
unfolding sha512 hash_from initial_state
length_sha m =
    let l = length_bytes_of (final_state initial_state m) in
    let b = length_blocks (length (padded m) / 128) initial_state (padded m) refl in
    length-take 64 (words_bytes (final_state initial_state m)) (omega arith)

length-hkdf : (salt key info : List ℕ) (n : ℕ) → n ≤ 64 → length (hkdf salt key info n) ≡ n
unfolding hkdf hmac
length-hkdf salt key info n h =
    let k : List ℕ = hmac salt key in
    let m : List ℕ = info ++ (1 ∷ []) in
    let t : List ℕ = each_xor 92 (block_key k) ++ sha512 (each_xor 54 (block_key k) ++ m) in
    let l = length_sha t in
    ap length (take_is n (sha512 t)) ∙ length-take-le n (sha512 t) (omega arith)

pub length-sealing_key : (k id : List ℕ) → length (sealing_key k id) ≡ 32
length-sealing_key k id = length-hkdf id k derive_label 32 (omega arith)

pub length-commitment : (k id : List ℕ) → length (commitment k id) ≡ 32
length-commitment k id = length-hkdf id k commit_label 32 (omega arith)
