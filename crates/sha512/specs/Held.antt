-- What a hasher holds of the message that it was fed so far. These are definitions: they assume nothing.
use Rattle.std.specs.Prelude.{◌≡◌, ℕ, ◌*◌, ◌%◌, ◌^◌, List, ◌++◌, length, take}
use Rattle.sha512.specs.Constants.{initial_state}
use Rattle.sha512.specs.Sha512.{hash_blocks}
use Rattle.sha512.specs.declared.stream.Stream.{Stream}
use Rattle.sha512.specs.declared.hasher.Hasher.{Hasher}

-- the message m is whole blocks, which are hashed from the initial state, and then the front of the block;
-- its length is counted as far as 16 bytes can say it
pub record Held (initial : List ℕ) (s : Stream) (m : List ℕ) : Type 0 where
  pub front : List ℕ
  pub count : ℕ
  pub whole : length front ≡ 128 * count
  pub parts : m ≡ front ++ take (s.total % 128) s.block
  pub hashed : s.state ≡ hash_blocks count initial front
  pub counted : s.total ≡ length m % 2 ^ 128

-- the pieces that were fed to a hasher are, joined, the message m
abbrev pub Fed : Hasher → List ℕ → Type 0
Fed h m = Held initial_state h.stream m
