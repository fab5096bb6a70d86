use Rattle.std.proofs.Common.{◌≡◌, ◌+◌, ◌<◌, length, drop}
use Rattle.std.specs.List.{flat_map, list_all}
use Rattle.header.proofs.part.parts_len.Given as goal

-- so far it is a number, the bytes so far and of the rest are those of all, and where the rest is short, so are all
abbrev pub invariant-loop-part : goal.invariant-loop-part
invariant-loop-part g l = record {
  fits : l.len < 18446744073709551616;
  long : l.len + length (flat_map g.P.Part.bytes (drop l.part-index l.parts)) ≡ length (flat_map g.P.Part.bytes l.parts);
  short : list_all g.P.Part.short (drop l.part-index l.parts) ≡ list_all g.P.Part.short l.parts;
}
