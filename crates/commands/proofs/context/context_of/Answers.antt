use Rattle.std.proofs.Common.{◌≡◌, Some, arith, sym, ap, ◌∙◌}
use Rattle.std.specs.Option.{option_map}
use Rattle.cli.specs.Split.{parts}
use Rattle.commands.specs.Given.{context_from}
use Rattle.commands.proofs.Turns.{pair_taken}
use Rattle.commands.proofs.context.context_of.Goals as goal

pub loop-word-preserved : goal.loop-word-preserved
loop-word-preserved c =
    let s : Some (c.in_ok-name.name, c.in_ok-name.value) ≡ c.split_pair.result = grind (arith, c.in_ok-name.ensures.value) in (
      pair_taken c.in-Some.word.now c.next.new.self c.in_ok-name.name c.in_ok-name.value c.loop-word.context c.add.new.self (ap (option_map parts) s ∙ c.split_pair.ensures.value) c.in-Ok.ensures.value.0
          ∙ ap (context_from c.loop-word.context) (sym c.in-Some.ensures.steps)
          ∙ c.loop-word.invariant.0,
      c.in-Ok.ensures.value.1 c.loop-word.invariant.1,
    )

pub returns : goal.returns
unfolding context_from
returns c = record { value = sym c.loop-word.invariant.0 ∙ ap (context_from c.loop-word.context) c.in-None.ensures.steps.0; order = c.loop-word.invariant.1 }
