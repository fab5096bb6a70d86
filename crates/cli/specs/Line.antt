-- What the words of a command line give, each with what it is for. These are definitions: they assume nothing.
use Rattle.std.specs.Prelude.{ℕ, cond, List, [], ◌∷◌, ◌==◌}
use Rattle.std.specs.Borrow.{Bor}
use Rattle.cli.specs.declared.options.Kind.{Kind}
use Rattle.cli.specs.declared.options.Kind.TheVariants as kinds
use Rattle.cli.specs.declared.line.Given.{Given}

pub record Item : Type 0 where
  pub kind : Kind
  pub text : List ℕ

abbrev pub item : Given → Item
item g = record { kind = g.kind; text = g.text.now }

-- a kind's place among the kinds, which tells it from the others
abbrev pub rank : Kind → ℕ
rank kinds.Key = 0
rank kinds.DataKey = 1
rank kinds.Context = 2
rank kinds.FrameLength = 3
rank kinds.Id = 4
rank kinds.Header = 5
rank kinds.Force = 6
rank kinds.Help = 7
rank kinds.Version = 8
rank kinds.Operand = 9

-- the texts of one kind
unfoldable pub texts : Kind → List Item → List (List ℕ)
texts k [] = []
texts k (i ∷ is) = cond (rank i.kind == rank k) (i.text ∷ texts k is) (texts k is)

abbrev pub now_of : Bor (List ℕ) → List ℕ
now_of r = r.now
