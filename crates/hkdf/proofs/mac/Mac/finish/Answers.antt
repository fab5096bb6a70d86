use Rattle.std.proofs.Common.{ℕ, List, [], ◌++◌, ◌∙◌, ap₂}
use Rattle.sha512.specs.Sha512.{sha512}
use Rattle.hkdf.specs.Hmac.{hmac}
use Rattle.hkdf.proofs.mac.Mac.finish.Goals as goal

pub returns : goal.returns
unfolding hmac
returns c k m h =
    c.finish-2.ensures.value _ (c.update-2.ensures.value _ (c.update.ensures.value [] c.new-hasher.ensures.value))
    ∙ ap₂ (λ (xs ys : List ℕ). sha512 (xs ++ ys)) h.outer (c.finish.ensures.value _ h.inner)
