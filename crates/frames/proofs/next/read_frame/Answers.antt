use Rattle.std.proofs.Common.{ℕ, ◌&&◌, eqb, ltb, List, sym, ap, ◌∙◌, arith}
use Rattle.std.proofs.lemmas.Bool.{lt-ltb, eq-eqb, ne_eqb, and_from, and_left}
use Rattle.octets.specs.Bits.{pick}
use Rattle.octets.specs.Cut.{guard}
use Rattle.octets.proofs.Bits.{pick_true, pick_false}
use Rattle.octets.proofs.Cuts.{guard_true, guard_false, number_some, number_none}
use Rattle.format.specs.Request.{end_marker}
use Rattle.format.specs.Reading.{ReadFrame, read_final, read_regular}
use Rattle.frames.specs.Next.{next_frame}
use Rattle.frames.proofs.next.read_frame.Goals as goal

abbrev after_mark : ℕ → ℕ → ℕ → List ℕ → List ReadFrame
after_mark size n m bs = pick (eqb m end_marker) (read_final size n bs) (guard (eqb m n && ltb n end_marker) (read_regular size n bs))

pub returns-in_err-mark : goal.returns-in_err-mark
returns-in_err-mark c = record { value = ap next_frame c.from_residual.ensures ∙ number_none 4 _ _ c.in_err-mark.ensures.value }

pub returns-then-mark : goal.returns-then-mark
unfolding end_marker
returns-then-mark c = record {
  value =
      c.read_final.ensures ∙ sym (pick_true _ _ _ (eq-eqb c.in_ok-mark.mark 4294967295 c.if-mark.true))
      ∙ number_some 4 _ _ _ (after_mark c.args.frame_length c.args.number) c.in_ok-mark.ensures.value;
}

pub returns-then-mark-number : goal.returns-then-mark-number
unfolding end_marker
returns-then-mark-number c = record {
  value =
      sym (guard_false _ _ (and_left _ _ (ne_eqb c.in_ok-mark.mark c.args.number c.if-mark-number.true))) ∙ sym (pick_false _ _ _ (ne_eqb c.in_ok-mark.mark 4294967295 c.if-mark.false))
      ∙ number_some 4 _ _ _ (after_mark c.args.frame_length c.args.number) c.in_ok-mark.ensures.value;
}

pub returns : goal.returns
unfolding end_marker
returns c = record {
  value =
      c.read_regular.ensures
      ∙ sym (guard_true _ _ (and_from _ _ (eq-eqb c.in_ok-mark.mark c.args.number c.if-mark-number.false) (lt-ltb c.args.number 4294967295 (omega arith))))
      ∙ sym (pick_false _ _ _ (ne_eqb c.in_ok-mark.mark 4294967295 c.if-mark.false))
      ∙ number_some 4 _ _ _ (after_mark c.args.frame_length c.args.number) c.in_ok-mark.ensures.value;
}
