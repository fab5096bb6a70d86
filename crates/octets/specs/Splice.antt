-- Bytes written into the middle of others. These are definitions: they assume nothing.
use Rattle.std.specs.Prelude.{◌≡◌, ℕ, ◌+◌, ◌<◌, ◌≤◌, List, ◌++◌, length, take, drop, Some, None, Option}

-- what is there after new bytes were written from a place on: nothing else changes
abbrev pub spliced : List ℕ → ℕ → List ℕ → List ℕ
spliced old at new = take at old ++ (new ++ drop (at + length new) old)

-- there was room: the bytes are written, and the next go behind them
pub record Written (old : List ℕ) (at : ℕ) (new : List ℕ) (end : ℕ) (out : List ℕ) : Type 0 where
  pub room : at + length new ≤ length old
  pub next : end ≡ at + length new
  pub holds : out ≡ spliced old at new

-- there was no room: nothing is written
pub record NoRoom (old : List ℕ) (at : ℕ) (new : List ℕ) (out : List ℕ) : Type 0 where
  pub lacks : length old < at + length new
  pub holds : out ≡ old

-- a write of new bytes over old ones from a place on, which answers where the next go
abbrev pub Put : List ℕ → ℕ → List ℕ → Option ℕ → List ℕ → Type 0
Put old at new (Some end) out = Written old at new end out
Put old at new None out = NoRoom old at new out
