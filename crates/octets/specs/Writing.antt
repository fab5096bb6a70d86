-- Bytes written one after another into lent ones, from the front on. These are definitions: they assume nothing.
use Rattle.std.specs.Prelude.{◌≡◌, ℕ, ◌+◌, ◌<◌, List, length, Some, None, Option, ⊤}
use Rattle.std.specs.Borrow.{MutBor}
use Rattle.octets.specs.declared.writer.Writer.{Writer}
use Rattle.octets.specs.Splice.{Written}

-- a writer over these lent bytes, with nothing written yet
pub record Starts (lent : MutBor (List ℕ)) (w : Writer) : Type 0 where
  pub same : w.out.ghost_name ≡ lent.ghost_name
  pub holds : w.out.now ≡ lent.now
  pub front : w.at ≡ 0

-- there was room: the bytes are written behind the others, over the same lent bytes
pub record Wrote (old : Writer) (new : List ℕ) (w : Writer) : Type 0 where
  pub same : w.out.ghost_name ≡ old.out.ghost_name
  pub written : Written old.out.now old.at new w.at w.out.now

-- there was no room for all of them
pub record Lacked (old : Writer) (new : List ℕ) (w : Writer) : Type 0 where
  pub same : w.out.ghost_name ≡ old.out.ghost_name
  pub lacks : length old.out.now < old.at + length new

-- bytes written behind the others, or not all of them
abbrev pub Writes : Writer → List ℕ → Option ⊤ → Writer → Type 0
Writes old new (Some u) w = Wrote old new w
Writes old new None w = Lacked old new w

-- bytes that do not fit leave all as it was
abbrev pub KeepsAtNone : Writer → Option ⊤ → Writer → Type 0
KeepsAtNone old (Some u) w = ⊤
KeepsAtNone old None w = (w.out.now ≡ old.out.now) × (w.at ≡ old.at)
