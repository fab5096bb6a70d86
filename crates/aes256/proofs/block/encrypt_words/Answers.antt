use Rattle.std.proofs.Common.{◌≡◌, ℕ, suc, ◌+◌, ◌-◌, ◌*◌, ◌/◌, List, length, drop, sym, ap, ◌∙◌, ap₂, arith, rules}
use Rattle.std.specs.Simd.{first_chunks}
use Rattle.octets.specs.Bytes.{xor_bytes}
use Rattle.aes256.specs.Aes.{sub_bytes, shift_rows, mix_columns, cipher_rounds}
use Rattle.aes256.specs.Columns.{words_bytes}
use Rattle.aes256.proofs.WordBytes.{four_at}
use Rattle.aes256.proofs.RoundBytes.{rounds_more, rounds_last, rounds_all}
use Rattle.aes256.proofs.block.encrypt_words.Goals as goal

pub loop-i-preserved : goal.loop-i-preserved
loop-i-preserved c =
    let i : ℕ = c.loop-i.i in
    let ks : List ℕ = c.args.words.now in
    let s : List ℕ = words_bytes c.loop-i.s in
    let n : ℕ = 14 - (i + 1) in
    let l : length ks ≡ 60 = search rules in
    let cut : c.as_chunks.result.0.now ≡ first_chunks 4 15 ks = c.as_chunks.ensures.front ∙ ap (λ (n : ℕ). first_chunks 4 (n / 4) ks) l in
    let e : 14 - i ≡ suc n = omega arith in
    let f : 4 * (i + 1) ≡ 4 * i + 4 = omega arith in
    ap₂ (λ (j : ℕ) (t : List ℕ). cipher_rounds n (words_bytes (drop j ks)) t) f
    (c.round-next.ensures ∙ ap (λ (k : List ℕ). xor_bytes (mix_columns 4 (shift_rows (sub_bytes s))) (words_bytes k)) (four_at c.as_chunks.result.0.now 15 i ks _ cut (omega arith) (omega arith)))
    ∙ sym (rounds_more ks n (4 * i) s (omega arith))
    ∙ ap (λ (m : ℕ). cipher_rounds m (words_bytes (drop (4 * i) ks)) s) (sym e)
    ∙ c.loop-i.invariant

pub returns : goal.returns
returns c =
    let i : ℕ = c.loop-i.i in
    let ks : List ℕ = c.args.words.now in
    let s : List ℕ = words_bytes c.loop-i.s in
    let l : length ks ≡ 60 = search rules in
    let cut : c.as_chunks.result.0.now ≡ first_chunks 4 15 ks = c.as_chunks.ensures.front ∙ ap (λ (n : ℕ). first_chunks 4 (n / 4) ks) l in
    let b : length c.args.block ≡ 16 = search rules in
    let e : i ≡ 14 = omega arith in
    c.store.ensures ∙ c.last_round.ensures
    ∙ ap (λ (k : List ℕ). xor_bytes (shift_rows (sub_bytes s)) (words_bytes k)) (four_at c.as_chunks.result.0.now 15 14 ks _ cut (omega arith) (omega arith))
    ∙ sym (rounds_last ks 56 s (omega arith))
    ∙ ap (λ (m : ℕ). cipher_rounds (14 - m) (words_bytes (drop (4 * m) ks)) s) (sym e)
    ∙ c.loop-i.invariant
    ∙ ap (λ (t : List ℕ). cipher_rounds 13 (words_bytes (drop 4 ks)) t) (c.load-s.ensures ∙ ap (λ (k : List ℕ). xor_bytes c.args.block (words_bytes k)) (four_at c.as_chunks.result.0.now 15 0 ks _ cut (omega arith) (omega arith)))
    ∙ sym (rounds_all ks c.args.block (omega arith) b)
