-- The words of a command line, each with what it is for. These are definitions: they assume nothing.
use Rattle.std.specs.Prelude.{◌≡◌, ℕ, cond, List, [], ◌∷◌, map, Some, None, Ok, Err, string_bytes, codes, Option, Result, String, Vec, vec_items, ◌==◌, slice_index}
use Rattle.std.specs.Str.{bytes_eq}
use Rattle.cli.specs.declared.options.Program.{Program}
use Rattle.cli.specs.declared.options.Kind.{Kind}
use Rattle.cli.specs.declared.options.Kind.TheVariants.{Operand}
use Rattle.cli.specs.declared.scan.Expects.{Expects}
use Rattle.cli.specs.declared.scan.Expects.TheVariants as expects
use Rattle.cli.specs.declared.scan.Expects.TheVariants.{Word, ValueOf}
use Rattle.cli.specs.declared.scan.Step.{Step}
use Rattle.cli.specs.declared.scan.ScanError.{ScanError}
use Rattle.cli.specs.declared.scan.ScanError.TheVariants.{Unknown, NoValue, Memory}
use Rattle.cli.specs.declared.line.Given.{Given}
use Rattle.cli.specs.Line.{Item, item}
use Rattle.cli.specs.Options.{option_of, takes, takes_value}

-- an option: its value is the next word, or it takes none
abbrev pub option_step : Program → Option Kind → Option Step
option_step program None = None
option_step program (Some k) =
    cond (takes program k) (cond (takes_value k) (Some (record { given = None; then = ValueOf k })) (Some (record { given = Some k; then = Word }))) None

-- "--" ends the options; what begins with '-' is an option, and anything else a file
abbrev pub word_step : Program → List ℕ → Option Step
word_step program w =
    cond (bytes_eq w (codes "--")) (Some (record { given = None; then = expects.Operand }))
    (cond (slice_index w 0 == 45) (option_step program (option_of w)) (Some (record { given = Some Operand; then = Word })))

-- what a word is for, by what is expected; none where it is an option that the program hasn't
abbrev pub step_of : Program → Expects → List ℕ → Option Step
step_of program Word w = word_step program w
step_of program (ValueOf k) w = Some (record { given = Some k; then = Word })
step_of program expects.Operand w = Some (record { given = Some Operand; then = expects.Operand })

pub data Fault : Type 0 where
  unknown : List ℕ → Fault
  no_value : Kind → Fault

abbrev pub item_before : Option Kind → List ℕ → Result (List Item) Fault → Result (List Item) Fault
item_before None w r = r
item_before (Some k) w (Ok xs) = Ok (record { kind = k; text = w } ∷ xs)
item_before (Some k) w (Err e) = Err e

abbrev pub at_end : Expects → Result (List Item) Fault
at_end Word = Ok []
at_end (ValueOf k) = Err (no_value k)
at_end expects.Operand = Ok []

abbrev pub go_on : List ℕ → Option Step → (Expects → Result (List Item) Fault) → Result (List Item) Fault
go_on w None rest = Err (unknown w)
go_on w (Some s) rest = item_before s.given w (rest s.then)

unfoldable pub scan_from : Program → Expects → List (List ℕ) → Result (List Item) Fault
scan_from program e [] = at_end e
scan_from program e (w ∷ ws) = go_on w (step_of program e w) (λ f. scan_from program f ws)

abbrev pub words_of : {Z : Type 0} → List (String Z) → List (List ℕ)
words_of ws = map string_bytes ws

-- the answer is as defined, unless memory ran out
abbrev pub Scans : {Z : Type 0} → Result (Vec Given Z) ScanError → Result (List Item) Fault → Type 0
Scans (Ok v) r = r ≡ Ok (map item (vec_items v))
Scans (Err (Unknown w)) r = r ≡ Err (unknown w.now)
Scans (Err (NoValue k)) r = r ≡ Err (no_value k)
Scans (Err Memory) r = Unit {0}
