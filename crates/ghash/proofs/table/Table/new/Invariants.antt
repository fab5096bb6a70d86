use Rattle.std.proofs.Common.{◌≡◌, ℕ, ◌<◌, length}
use Rattle.ghash.specs.Element.{value}
use Rattle.ghash.specs.Steps.{times_power}
use Rattle.ghash.specs.Rows.{row_value}
use Rattle.ghash.proofs.table.Table.new.Given as goal

abbrev pub invariant-loop-i : goal.invariant-loop-i
invariant-loop-i l =
    (value l.v ≡ times_power l.i (value l.h)) × ((k : ℕ) → k < l.i → row_value l.a l.b l.c l.d k ≡ times_power k (value l.h))
    × (length l.a ≡ 128) × (length l.b ≡ 128) × (length l.c ≡ 128) × (length l.d ≡ 128)
