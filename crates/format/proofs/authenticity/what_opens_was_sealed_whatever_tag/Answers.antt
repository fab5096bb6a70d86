use Rattle.format.proofs.Accounted.{what_opens_whatever_tag}
use Rattle.format.proofs.authenticity.what_opens_was_sealed_whatever_tag.Goals as goal

pub returns : goal.returns
returns c = what_opens_whatever_tag
