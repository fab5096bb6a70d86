use Rattle.std.proofs.Common.{◌+◌, sym, ap, ◌∙◌, true-eqb, false-eqb}
use Rattle.header.proofs.Lengths.{context_none, context_some}
use Rattle.header.proofs.context.Context.len.Goals as goal

pub returns-then-is_empty : goal.returns-then-is_empty
returns-then-is_empty c = sym (context_none c.args.self.pairs.now (true-eqb _ 0 c.if-is_empty.ensures))

pub returns : goal.returns
returns c = ap (λ n. 4 + n) c.args.self.long ∙ sym (context_some c.args.self.pairs.now (false-eqb _ 0 c.if-is_empty.ensures))
