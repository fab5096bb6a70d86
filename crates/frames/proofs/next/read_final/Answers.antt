use Rattle.std.proofs.Common.{ℕ, true, eqb, leb, List, sym, ap, ◌∙◌}
use Rattle.std.proofs.lemmas.Bool.{le-leb, lt-leb, eq-eqb, ne_eqb}
use Rattle.octets.specs.Cut.{and_then, guard}
use Rattle.octets.proofs.Cuts.{and_then_some, and_then_none, guard_true, guard_false, number_some, number_none}
use Rattle.format.specs.Reading.{ReadFrame}
use Rattle.frames.specs.Next.{after_nonce, body, next_frame}
use Rattle.frames.proofs.Steps.{counted, final_steps}
use Rattle.frames.proofs.next.read_final.Goals as goal

abbrev after_number : ℕ → ℕ → ℕ → List ℕ → List ReadFrame
after_number size n m bs = guard (eqb m n) (and_then (after_nonce n bs) (λ r. counted size r))

abbrev after_length : ℕ → ℕ → List ℕ → List ReadFrame
after_length size l bs = guard (leb l size) (body true l bs)

pub returns-in_err-own_number : goal.returns-in_err-own_number
returns-in_err-own_number c = ap next_frame c.from_residual.ensures ∙ number_none 4 _ _ c.in_err-own_number.ensures.value ∙ final_steps c.args.frame_length c.args.number c.args.bytes.now

pub returns-then-own_number-number : goal.returns-then-own_number-number
returns-then-own_number-number c =
    sym (guard_false _ _ (ne_eqb c.in_ok-own_number.own_number c.args.number c.if-own_number-number.true))
    ∙ number_some 4 _ _ _ (after_number c.args.frame_length c.args.number) c.in_ok-own_number.ensures.value ∙ final_steps c.args.frame_length c.args.number c.args.bytes.now

pub returns-in_err-more : goal.returns-in_err-more
returns-in_err-more c =
    ap next_frame c.from_residual-in_err-more.ensures ∙ and_then_none _ _ c.in_err-more.ensures
    ∙ sym (guard_true _ _ (eq-eqb c.in_ok-own_number.own_number c.args.number c.if-own_number-number.false))
    ∙ number_some 4 _ _ _ (after_number c.args.frame_length c.args.number) c.in_ok-own_number.ensures.value ∙ final_steps c.args.frame_length c.args.number c.args.bytes.now

pub returns-in_err-len : goal.returns-in_err-len
returns-in_err-len c =
    ap next_frame c.from_residual-in_err-len.ensures ∙ number_none 4 _ _ c.in_err-len.ensures.value ∙ and_then_some _ _ _ c.in_ok-more.ensures
    ∙ sym (guard_true _ _ (eq-eqb c.in_ok-own_number.own_number c.args.number c.if-own_number-number.false))
    ∙ number_some 4 _ _ _ (after_number c.args.frame_length c.args.number) c.in_ok-own_number.ensures.value ∙ final_steps c.args.frame_length c.args.number c.args.bytes.now

pub returns-then-len-frame_length : goal.returns-then-len-frame_length
returns-then-len-frame_length c =
    sym (guard_false _ _ (lt-leb c.in_ok-len.len c.args.frame_length c.if-len-frame_length.true))
    ∙ number_some 4 _ _ _ (after_length c.args.frame_length) c.in_ok-len.ensures.value ∙ and_then_some _ _ _ c.in_ok-more.ensures
    ∙ sym (guard_true _ _ (eq-eqb c.in_ok-own_number.own_number c.args.number c.if-own_number-number.false))
    ∙ number_some 4 _ _ _ (after_number c.args.frame_length c.args.number) c.in_ok-own_number.ensures.value ∙ final_steps c.args.frame_length c.args.number c.args.bytes.now

pub returns : goal.returns
returns c =
    c.read_body.ensures ∙ sym (guard_true _ _ (le-leb c.in_ok-len.len c.args.frame_length c.if-len-frame_length.false))
    ∙ number_some 4 _ _ _ (after_length c.args.frame_length) c.in_ok-len.ensures.value ∙ and_then_some _ _ _ c.in_ok-more.ensures
    ∙ sym (guard_true _ _ (eq-eqb c.in_ok-own_number.own_number c.args.number c.if-own_number-number.false))
    ∙ number_some 4 _ _ _ (after_number c.args.frame_length c.args.number) c.in_ok-own_number.ensures.value ∙ final_steps c.args.frame_length c.args.number c.args.bytes.now
