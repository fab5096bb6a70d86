-- What the system did, or a problem that names the file. These are definitions: they assume nothing.
use Rattle.std.specs.Prelude.{ℕ, List, Ok, Err}
use Rattle.std.specs.declared.result.Result.{Result}
use Rattle.std.specs.Borrow.{Bor}
use Rattle.std.specs.declared.io.Error.{Error}
use Rattle.commands.specs.declared.problem.Action.{Action}
use Rattle.commands.specs.declared.problem.Problem.{Problem}
use Rattle.commands.specs.declared.problem.Problem.TheVariants.{File}

abbrev pub naming : {T : Type 0} → Action → Bor (List ℕ) → Result T Error → Result T Problem
naming action path (Ok x) = Ok x
naming action path (Err e) = Err (File action path e)
