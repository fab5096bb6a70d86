-- The command to open, from the words of a command line. These are definitions: they assume nothing.
use Rattle.std.specs.Prelude.{◌≡◌, List, [], ◌∷◌}
use Rattle.cli.specs.Line.{Item, texts}
use Rattle.cli.specs.declared.options.Kind.TheVariants.{Key, Force, Operand}
use Rattle.commands.specs.declared.open.OpenCommand.{OpenCommand}
use Rattle.commands.specs.Given.{some_of}

-- what the words give for a command
pub record OpenGiven (items : List Item) (c : OpenCommand) : Type 0 where
  pub key : texts Key items ≡ c.key.now ∷ []
  pub force : c.force ≡ some_of (texts Force items)
  pub files : texts Operand items ≡ c.input.now ∷ c.output.now ∷ []
