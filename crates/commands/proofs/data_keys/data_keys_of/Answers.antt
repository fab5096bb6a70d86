use Rattle.std.proofs.Common.{◌≡◌, ◌++◌, Some, map, vec_items, arith, sym, ap, ◌∙◌, append-nil}
use Rattle.std.specs.Option.{option_map}
use Rattle.cli.specs.Split.{data_key_parts, split_data_key}
use Rattle.commands.specs.Given.{some_parts}
use Rattle.commands.proofs.Turns.{data_key_taken}
use Rattle.commands.proofs.data_keys.data_keys_of.Goals as goal

pub loop-word-preserved : goal.loop-word-preserved
loop-word-preserved c =
    let s : Some c.in_ok-one.one ≡ c.split_data_key.result = grind (arith, c.in_ok-one.ensures.value) in
    data_key_taken c.in-Some.word.now c.next.new.self c.in_ok-one.one (vec_items c.loop-word.all) (vec_items c.push.new.self) (ap (option_map data_key_parts) s ∙ c.split_data_key.ensures.value) c.in_ok-push.ensures.items
    ∙ ap (λ ws. map some_parts (vec_items c.loop-word.all) ++ map split_data_key ws) (sym c.in-Some.ensures.steps)
    ∙ c.loop-word.invariant

pub returns : goal.returns
returns c =
    record {
      value =
          sym c.loop-word.invariant
          ∙ ap (λ ws. map some_parts (vec_items c.loop-word.all) ++ map split_data_key ws) c.in-None.ensures.steps.0
          ∙ append-nil (map some_parts (vec_items c.loop-word.all));
    }
