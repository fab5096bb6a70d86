use Rattle.std.proofs.Common.{◌≡◌, ℕ, ◌/◌, ◌<◌, List, [], ◌∷◌, length, get_or, ap, ◌∙◌, ap₂, arith, rules}
use lib.Bits.{bit_xor}
use Rattle.std.specs.Simd.{first_chunks}
use Rattle.aes256.specs.Columns.{words_bytes}
use Rattle.aes256.proofs.RoundBytes.{load_is}
use Rattle.aes256.proofs.WordBytes.{four_at, word_at}
use Rattle.aes256.proofs.block.load.Goals as goal

pub returns : goal.returns
returns c =
    let b : List ℕ = c.args.b.now in let k : List ℕ = c.args.k in
    let lb : length b ≡ 16 = search rules in let lk : length k ≡ 4 = search rules in
    let cut : c.as_chunks.result.0.now ≡ first_chunks 4 4 b = c.as_chunks.ensures.front ∙ ap (λ (n : ℕ). first_chunks 4 (n / 4) b) lb in
    let column = λ (i : ℕ) (h : i < 4). four_at c.as_chunks.result.0.now 4 i b [] cut h (omega arith) in
    ap words_bytes
    (ap₂ (λ (x : ℕ) (t : List ℕ). bit_xor x (get_or k 0 0) ∷ t) (word_at _ _ b 0 (column 0 (omega arith)) c.from_be_bytes.ensures)
    (ap₂ (λ (x : ℕ) (t : List ℕ). bit_xor x (get_or k 1 0) ∷ t) (word_at _ _ b 4 (column 1 (omega arith)) c.from_be_bytes-2.ensures)
    (ap₂ (λ (x : ℕ) (t : List ℕ). bit_xor x (get_or k 2 0) ∷ t) (word_at _ _ b 8 (column 2 (omega arith)) c.from_be_bytes-3.ensures)
    (ap (λ (x : ℕ). bit_xor x (get_or k 3 0) ∷ []) (word_at _ _ b 12 (column 3 (omega arith)) c.from_be_bytes-4.ensures)))))
    ∙ load_is b k (λ i. c.fits-b i) lb lk (omega arith) (omega arith) (omega arith) (omega arith)
