use Rattle.format.proofs.Shown.{front_hides_text}
use Rattle.format.proofs.corollaries.front_hides_text.Goals as goal

pub returns : goal.returns
returns c = front_hides_text
