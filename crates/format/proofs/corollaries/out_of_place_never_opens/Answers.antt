use Rattle.format.proofs.FrameList.{out_of_place}
use Rattle.format.proofs.corollaries.out_of_place_never_opens.Goals as goal

pub returns : goal.returns
returns c = out_of_place
