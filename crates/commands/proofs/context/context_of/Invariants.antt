use Rattle.std.proofs.Common.{◌≡◌, true, []}
use Rattle.cli.specs.declared.options.Kind.TheVariants.{Context}
use Rattle.cli.specs.Context.{rising}
use Rattle.cli.specs.Line.{texts}
use Rattle.commands.specs.Given.{context_from}
use Rattle.commands.proofs.context.context_of.Given as goal

abbrev pub invariant-loop-word : goal.invariant-loop-word
invariant-loop-word l = (context_from l.context l.word-iterator ≡ context_from [] (texts Context l.line)) × (rising l.context ≡ true)
