-- The command to seal, from the words of a command line. These are definitions: they assume nothing.
use Rattle.std.specs.Prelude.{◌≡◌, ℕ, List, [], ◌∷◌, Some, None, Option}
use Rattle.std.specs.Option.{option_map}
use Rattle.std.specs.Result.{result_ok}
use Rattle.cli.specs.Hex.{unhex_32}
use Rattle.cli.specs.Number.{number_within}
use Rattle.cli.specs.Line.{Item, texts}
use Rattle.cli.specs.declared.options.Kind.TheVariants.{Key, FrameLength, Id, Force, Operand}
use Rattle.commands.specs.declared.seal.SealCommand.{SealCommand}
use Rattle.commands.specs.Given.{some_of}

-- 4096 where none is given
abbrev pub frame_length_of : List (List ℕ) → Option ℕ
frame_length_of [] = Some 4096
frame_length_of (t ∷ []) = result_ok (number_within 1 16384 t)
frame_length_of (t ∷ (u ∷ ts)) = None

-- none has to be given; one that is given has to be 32 bytes
abbrev pub id_of : List (List ℕ) → Option (Option (List ℕ))
id_of [] = Some None
id_of (t ∷ []) = option_map Some (unhex_32 t)
id_of (t ∷ (u ∷ ts)) = None

-- what the words give for a command
pub record SealGiven (items : List Item) (s : SealCommand) : Type 0 where
  pub key : texts Key items ≡ s.key.now ∷ []
  pub frame_length : Some s.frame_length ≡ frame_length_of (texts FrameLength items)
  pub id : Some s.id ≡ id_of (texts Id items)
  pub force : s.force ≡ some_of (texts Force items)
  pub files : texts Operand items ≡ s.input.now ∷ s.output.now ∷ []
