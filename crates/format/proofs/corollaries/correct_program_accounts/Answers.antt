use Rattle.format.proofs.Shown.{correct_program_accounts}
use Rattle.format.proofs.corollaries.correct_program_accounts.Goals as goal

pub returns : goal.returns
returns c = correct_program_accounts
