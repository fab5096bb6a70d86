use Rattle.std.proofs.Common.{ℕ, ◌-◌, ◌/◌, List, ap, ◌∙◌, ap₂, arith}
use Rattle.octets.specs.Bytes.{xor_bytes}
use Rattle.aes256.specs.Aes.{sub_bytes}
use Rattle.aes256.specs.Columns.{word_bytes}
use Rattle.aes256.proofs.WordBytes.{xor_any_words}
use Rattle.aes256.proofs.ScheduleWords.{rotated_bytes, rcon_bytes, sub_bytes_word, sub_bytes_only, next_eighth, next_fourth, next_other}
use Rattle.aes256.proofs.schedule.next_word.Goals as goal

pub returns-then-i-eq0 : goal.returns-then-i-eq0
returns-then-i-eq0 c =
    let p : ℕ = c.args.prev in let o : ℕ = c.args.old in
    xor_any_words o c.sub_column.result (omega arith) c.sub_column.type_inv
    ∙ ap (xor_bytes (word_bytes o)) (ap word_bytes c.sub_column.ensures
    ∙ sub_bytes_word c.rotate_left-t.result c.round_constant.result c.round_constant.type_inv
    ∙ ap₂ (λ (x y : List ℕ). xor_bytes (sub_bytes x) y) (ap word_bytes c.rotate_left-t.ensures ∙ rotated_bytes p (omega arith))
    (ap word_bytes c.round_constant.ensures ∙ rcon_bytes (c.args.i / 8 - 1)))
    ∙ next_eighth (word_bytes p) (word_bytes o) c.args.i c.if-i-eq0.true

pub returns-then-i-eq4 : goal.returns-then-i-eq4
returns-then-i-eq4 c =
    let p : ℕ = c.args.prev in let o : ℕ = c.args.old in
    xor_any_words o c.sub_column-then-i-eq4.result (omega arith) c.sub_column-then-i-eq4.type_inv
    ∙ ap (xor_bytes (word_bytes o)) (ap word_bytes c.sub_column-then-i-eq4.ensures ∙ sub_bytes_only p)
    ∙ next_fourth (word_bytes p) (word_bytes o) c.args.i c.if-i-eq0.false c.if-i-eq4.true

pub returns-else-i-eq4 : goal.returns-else-i-eq4
returns-else-i-eq4 c =
    xor_any_words c.args.old c.args.prev (omega arith) (omega arith)
    ∙ next_other (word_bytes c.args.prev) (word_bytes c.args.old) c.args.i c.if-i-eq0.false c.if-i-eq4.false
