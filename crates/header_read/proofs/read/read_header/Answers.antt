use Rattle.octets.proofs.Cuts.{cut_parts}
use Rattle.header_read.proofs.HeaderParts.{id_long}
use Rattle.header_read.proofs.read.read_header.Goals as goal

pub returns-clause-lengths : goal.returns-clause-lengths
returns-clause-lengths c = record {
  id = id_long _ _ c.in_ok-id.ensures;
  commitment = (cut_parts 32 _ _ _ c.in_ok-commitment.ensures.value).long;
  tag = (cut_parts 16 _ _ _ c.in_ok-tag.ensures.value).long;
}
