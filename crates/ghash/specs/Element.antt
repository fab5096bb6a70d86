-- The number that two words stand for.
use Rattle.std.specs.Prelude.{ℕ, ◌+◌, ◌*◌, ◌^◌}
use Rattle.ghash.specs.declared.element.Element.{Element}

abbrev pub value : Element → ℕ
value e = e.hi * 2 ^ 64 + e.lo
