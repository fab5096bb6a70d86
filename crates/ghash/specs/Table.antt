-- The element that a table is for: GHASH's hash key.
use Rattle.std.specs.Prelude.{ℕ}
use Rattle.ghash.specs.declared.table.Table.{Table}
use Rattle.ghash.specs.Element.{value}

abbrev pub hash_key_of : Table → ℕ
hash_key_of t = value t.h
