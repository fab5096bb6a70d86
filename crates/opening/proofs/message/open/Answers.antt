use Rattle.std.proofs.Common.{of_calls, ◌-◌, length, sym, refl, ap, ◌∙◌, arith, length-drop}
use native.Mathlib.Nat.{sub-zero}
use Rattle.std.proofs.lemmas.List.{take_rest}
use Rattle.octets.specs.Bytes.{repeat}
use Rattle.opening.proofs.Unlocking.{all_bytes_of}
use Rattle.opening.proofs.Answers.{answer_short, answer_enough, text_known, answer_kept, zeros_behind, accounts}
use Rattle.opening.proofs.message.open.Goals as goal

pub returns-then-out-message : goal.returns-then-out-message
returns-then-out-message c = record {
  value = answer_short (length c.args.out.now) c.args.key.now c.args.message.now c.if-out-message.true;
  zeros = c.clear.ensures.value ∙ ap (λ n. repeat n 0) (sym (sub-zero (length c.args.out.now)));
  sealed = λ rs g. tt;
}

pub returns : goal.returns
returns c =
    let read = c.open_message-answer in
    let len = text_known read.result c.map_or-len.result (λ o p. search of_calls) c.map_or-len.ensures in
    let within = read.ensures.within in
    let kept = answer_kept read.result read.new.out c.clear-2.new.out c.map_or-len.result (length read.new.out - c.map_or-len.result) len (omega arith) ∙ read.ensures.value in
    record {
      value = answer_enough (length c.args.out.now) c.args.key.now c.args.message.now _ c.if-out-message.false kept;
      zeros =
          zeros_behind read.result read.new.out c.clear-2.new.out c.map_or-len.result (length read.new.out - c.map_or-len.result) (length c.args.out.now) len (omega arith) refl (omega arith)
          (c.clear-2.ensures.value ∙ ap (λ n. repeat n 0) (simp (take_rest, length-drop) refl));
      sealed = λ rs g. accounts rs c.args.key.now c.args.message.now read.result _ g (all_bytes_of c.args.message.now (λ i. omega (arith, c.type_inv.message i))) kept;
    }
