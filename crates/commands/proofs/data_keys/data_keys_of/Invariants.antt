use Rattle.std.proofs.Common.{◌≡◌, ◌++◌, map, vec_items}
use Rattle.cli.specs.declared.options.Kind.TheVariants.{DataKey}
use Rattle.cli.specs.Line.{texts}
use Rattle.cli.specs.Split.{split_data_key}
use Rattle.commands.specs.Given.{some_parts}
use Rattle.commands.proofs.data_keys.data_keys_of.Given as goal

abbrev pub invariant-loop-word : goal.invariant-loop-word
invariant-loop-word l = map some_parts (vec_items l.all) ++ map split_data_key l.word-iterator ≡ map split_data_key (texts DataKey l.line)
