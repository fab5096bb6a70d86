use Rattle.std.proofs.Common.{rules, arith, sym, subst}
use Rattle.std.specs.Io.KnownBytes.{Consumes}
use Rattle.files.proofs.Parts.{drop-put_mid}
use Rattle.files.proofs.window.Window.fill.Goals as goal

pub returns-clause-bytes : goal.returns-clause-bytes
returns-clause-bytes g c =
    subst (Consumes _ _) (sym (drop-put_mid _ _ _ _ _ _ (search rules) (omega (arith, c.self.invariant)) c.in_ok-n.ensures.bound)) c.in_ok-n.ensures.bytes
