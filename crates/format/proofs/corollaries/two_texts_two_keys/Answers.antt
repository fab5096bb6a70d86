use Rattle.format.proofs.Shown.{two_texts}
use Rattle.format.proofs.corollaries.two_texts_two_keys.Goals as goal

pub returns : goal.returns
returns c = two_texts
