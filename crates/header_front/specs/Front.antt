-- What stands at the front of a message that begins with given bytes. These are definitions: they assume nothing.
use Rattle.std.specs.Prelude.{◌≡◌, ℕ, ◌≤◌, List, [], ◌∷◌, ◌++◌, length, drop}
use Rattle.format.specs.Reading.{ReadHeader, read_header}
use Rattle.header_front.specs.Settled.{with_more}
use Rattle.header_front.specs.declared.front.HeaderFront.{HeaderFront}
use Rattle.header_front.specs.declared.front.HeaderFront.TheVariants.{Whole, Short, Wrong}

-- header and tag are the first so many bytes, whatever follows
pub record HeaderWhole (bs : List ℕ) (len : ℕ) : Type 0 where
  pub read : ReadHeader
  pub found : (more : List ℕ) → read_header (bs ++ more) ≡ with_more more (read ∷ [])
  pub within : len ≤ length bs
  pub rest : drop len bs ≡ read.rest

abbrev pub Fronts : List ℕ → HeaderFront → Type 0
Fronts bs (Whole len) = HeaderWhole bs len
Fronts bs Short = [] ≡ read_header bs
Fronts bs Wrong = (more : List ℕ) → [] ≡ read_header (bs ++ more)
