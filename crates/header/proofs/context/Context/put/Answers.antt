use Rattle.std.proofs.Common.{◌∙◌, subst, arith, true-eqb, false-eqb}
use Rattle.octets.specs.Writing.{Writes, Lacked}
use Rattle.octets.proofs.Writing.{writes_then, lacked_more}
use Rattle.header.proofs.Writes.{context_empty, context_split_flat, few_pairs}
use Rattle.header.proofs.Parts.{pairs_all_short}
use Rattle.header.proofs.context.Context.put.Goals as goal

pub returns-then-is_empty : goal.returns-then-is_empty
returns-then-is_empty c =
    subst (λ l. Writes c.args.to.now l c.put_number.result c.put_number.new.self) (context_empty c.args.self.pairs.now (true-eqb _ 0 c.if-is_empty.ensures)) c.put_number.ensures.value

pub returns-in_err-put_number : goal.returns-in_err-put_number
returns-in_err-put_number c =
    rw c.from_residual.ensures (
    subst (λ l. Lacked c.args.to.now l c.put_number-2.new.self) (context_split_flat c.args.self.pairs.now _ c.args.self.long (false-eqb _ 0 c.if-is_empty.ensures)) (lacked_more _ _ _ _ c.in_err-put_number.ensures.value))

pub put_parts-requires-clause-few : goal.put_parts-requires-clause-few
put_parts-requires-clause-few c = omega (arith, c.args.self.long, c.args.self.fits, few_pairs c.args.self.pairs.now)

pub put_parts-requires-clause-short : goal.put_parts-requires-clause-short
put_parts-requires-clause-short c = pairs_all_short c.args.self.pairs.now ∙ c.args.self.short

pub returns : goal.returns
returns c =
    subst (λ l. Writes c.args.to.now l c.put_parts.result c.put_parts.new.to) (context_split_flat c.args.self.pairs.now _ c.args.self.long (false-eqb _ 0 c.if-is_empty.ensures))
    (writes_then _ _ _ _ _ c.put_parts.result c.in_ok-put_number.ensures.value c.put_parts.ensures)
