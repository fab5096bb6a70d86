use Rattle.format.proofs.Behind.{nothing_else_behind}
use Rattle.format.proofs.corollaries.nothing_else_behind_a_header.Goals as goal

pub returns : goal.returns
returns c = nothing_else_behind
