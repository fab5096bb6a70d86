use Rattle.std.proofs.Common.{rules, arith}
use Rattle.files.proofs.Parts.{take-copy_within}
use Rattle.files.proofs.window.Window.take.Goals as goal

pub returns-clause-rest : goal.returns-clause-rest
returns-clause-rest g c = take-copy_within _ _ _ _ _ _ c.min-n.ensures (search rules) (omega (arith, c.self.invariant)) c.copy_within.ensures.after
