-- What is held of bytes that were read. These are definitions: they assume nothing.
use Rattle.std.specs.Prelude.{ℕ, List}

-- the bytes, and how many there may be
pub record Held : Type 0 where
  pub bytes : List ℕ
  pub size : ℕ
