use Rattle.std.proofs.Common.{[], length, ap, ◌∙◌}
use Rattle.format.specs.Request.{pairs_bytes}
use Rattle.format.specs.Header.{header_bytes}
use Rattle.header.proofs.checks.check_header.Goals as goal

pub returns-clause-checked : goal.returns-clause-checked
returns-clause-checked c = record {
  id = ap (λ h. h.id) (c.in_ok-asked.ensures.asked []);
  pairs_long = c.in_ok-asked.asked.context.long ∙ ap (λ h. length (pairs_bytes h.context)) (c.in_ok-asked.ensures.asked []);
  header_long = λ k e. c.len.ensures.value k e ∙ ap (λ h. length (header_bytes h)) (c.in_ok-asked.ensures.asked k);
}
