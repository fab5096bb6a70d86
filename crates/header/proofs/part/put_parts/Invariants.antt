use Rattle.std.proofs.Common.{◌++◌, length, take}
use Rattle.std.specs.List.{flat_map}
use Rattle.octets.specs.Bytes.{to_bytes}
use Rattle.octets.specs.Writing.{Wrote}
use Rattle.header.proofs.part.put_parts.Given as goal

-- the count and the parts so far are written
abbrev pub invariant-loop-part : goal.invariant-loop-part
invariant-loop-part g l = Wrote l.fn.to (to_bytes 2 (length l.parts) ++ flat_map g.P.Part.bytes (take l.part-index l.parts)) l.to
