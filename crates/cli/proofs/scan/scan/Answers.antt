use Rattle.std.proofs.Common.{◌≡◌, Some, None, Ok, arith, map, vec_items, sym, ap, ◌∙◌}
use Rattle.std.proofs.lemmas.Result.{err_from_is_err_and}
use Rattle.cli.specs.declared.scan.ScanError.TheVariants.{Unknown}
use Rattle.cli.specs.Line.{item}
use Rattle.cli.proofs.Words.{word_unknown, word_taken, word_passed, value_missing, words_done}
use Rattle.cli.proofs.scan.scan.Goals as goal
use Rattle.cli.proofs.scan.scan.Goals.{in-Some+in_ok-push, in_default}

pub returns-in_err-step : goal.returns-in_err-step
returns-in_err-step c =
    let e : None ≡ c.next_step.result = grind (arith, c.in_err-step.ensures.value) in
    let u : c.in_err-step.field-0.0 ≡ Unknown c.as_str-text.result = grind (arith, c.in_err-step.ensures.value) in
    let p = err_from_is_err_and c.from_residual.result c.from_residual.ensures.1 in
    rw (p.1, p.2, u)
    (record {
      value =
          sym c.loop-word.invariant
          ∙ word_unknown c.args.program c.loop-word.expects c.args.words.now c.loop-word.word-index c.word-item.result c.as_str-text.result.now _ c.loop-word-test.true c.word-item.is c.as_str-text.ensures.value
          (e ∙ c.next_step.ensures);
    })

pub loop-word-preserved : goal.loop-word-preserved
loop-word-preserved c =
    let e : Some c.in_ok-step.step ≡ c.next_step.result = grind (arith, c.in_ok-step.ensures.value) in
    let s = e ∙ c.next_step.ensures in
    elim c.match-step.branch [
      | in-Some+in_ok-push w ↦
          word_taken c.args.program c.loop-word.expects c.match-step.expects c.args.words.now c.loop-word.word-index c.word-item.result
          (record { kind = w.in-Some.kind; text = c.as_str-text.result }) c.in_ok-step.step (vec_items c.loop-word.all) (vec_items c.match-step.all) c.loop-word-test.true c.word-item.is
          c.as_str-text.ensures.value s w.in-Some.is
          (ap vec_items w.all-is ∙ w.in_ok-push.ensures.items) w.expects-is
          ∙ c.loop-word.invariant
      | in_default w ↦
          word_passed c.args.program c.loop-word.expects c.match-step.expects c.args.words.now c.loop-word.word-index c.word-item.result c.as_str-text.result.now c.in_ok-step.step
          (vec_items c.loop-word.all) (vec_items c.match-step.all) c.loop-word-test.true c.word-item.is c.as_str-text.ensures.value s w.in_default.is (ap vec_items w.all-is)
          w.expects-is
          ∙ c.loop-word.invariant
    ]

pub returns-in-ValueOf : goal.returns-in-ValueOf
returns-in-ValueOf c =
    record {
      value =
          sym c.loop-word.invariant ∙ value_missing c.args.program c.loop-word.expects c.args.words.now c.loop-word.word-index c.in-ValueOf.kind _ c.loop-word-test.false c.in-ValueOf.is;
    }

pub returns : goal.returns
returns c =
    record {
      value =
          sym c.loop-word.invariant
          ∙ words_done c.args.program c.loop-word.expects c.args.words.now c.loop-word.word-index _ c.loop-word-test.false c.in_default-expects.not-ValueOf;
    }
