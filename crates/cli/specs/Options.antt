-- The options of the two programs. These are definitions: they assume nothing.
use Rattle.std.specs.Prelude.{ℕ, Bool, true, false, List, [], ◌∷◌, codes, Option}
use Rattle.std.specs.List.{find}
use Rattle.std.specs.Str.{bytes_eq}
use Rattle.cli.specs.declared.options.Program.{Program}
use Rattle.cli.specs.declared.options.Program.TheVariants.{Seal, Open}
use Rattle.cli.specs.declared.options.Kind.{Kind}
use Rattle.cli.specs.declared.options.Kind.TheVariants.{Key, DataKey, Context, FrameLength, Id, Header, Force, Help, Version, Operand}

-- how a person writes a kind
abbrev pub name_of : Kind → List ℕ
name_of Key = codes "--key"
name_of DataKey = codes "--data-key"
name_of Context = codes "--context"
name_of FrameLength = codes "--frame-length"
name_of Id = codes "--id"
name_of Header = codes "--header"
name_of Force = codes "--force"
name_of Help = codes "--help"
name_of Version = codes "--version"
name_of Operand = codes "a file"

-- the kinds that are options
abbrev pub options : List Kind
options = Key ∷ DataKey ∷ Context ∷ FrameLength ∷ Id ∷ Header ∷ Force ∷ Help ∷ Version ∷ []

-- the option of that name
abbrev pub option_of : List ℕ → Option Kind
option_of w = find (λ k. bytes_eq w (name_of k)) options

-- options that a program hasn't
abbrev pub takes : Program → Kind → Bool
takes Seal Key = true
takes Seal DataKey = true
takes Seal Context = true
takes Seal FrameLength = true
takes Seal Id = true
takes Seal Header = false
takes Seal Force = true
takes Seal Help = true
takes Seal Version = true
takes Seal Operand = true
takes Open Key = true
takes Open DataKey = false
takes Open Context = true
takes Open FrameLength = false
takes Open Id = false
takes Open Header = true
takes Open Force = true
takes Open Help = true
takes Open Version = true
takes Open Operand = true

-- the next word is its value
abbrev pub takes_value : Kind → Bool
takes_value Key = true
takes_value DataKey = true
takes_value Context = true
takes_value FrameLength = true
takes_value Id = true
takes_value Header = false
takes_value Force = false
takes_value Help = false
takes_value Version = false
takes_value Operand = false
