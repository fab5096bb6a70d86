use Rattle.std.proofs.Common.{ap, ◌∙◌, arith}
use Rattle.octets.proofs.Cuts.{and_then_some, number_some}
use Rattle.format.specs.Reading.{read_pairs}
use Rattle.header_read.specs.Parts.{context_reads}
use Rattle.header_read.proofs.Steps.{pick_no}
use Rattle.header_read.proofs.HeaderParts.{context_of, context_zero, context_falls, context_goes_on, context_some}
use Rattle.header_read.proofs.read.cut_context.Goals as goal

pub returns-then-count-eq0 : goal.returns-then-count-eq0
returns-then-count-eq0 c =
    context_zero c.in_ok-count.count c.in_ok-count.pairs.now c.in_ok-field.rest.now c.if-count-eq0.true
    ∙ number_some 2 _ _ _ (context_of c.in_ok-field.rest.now) c.in_ok-count.ensures.value ∙ pick_no _ _ _ c.if-is_empty.ensures ∙ and_then_some _ _ _ c.in_ok-field.ensures.value

pub returns-in_err-end : goal.returns-in_err-end
returns-in_err-end c =
    ap context_reads c.from_residual-in_err-end.ensures
    ∙ context_falls (read_pairs c.in_ok-count.count c.in_ok-count.pairs.now) c.in_ok-field.rest.now c.in_err-end.ensures
    ∙ number_some 2 _ _ _ (context_of c.in_ok-field.rest.now) c.in_ok-count.ensures.value ∙ pick_no _ _ _ c.if-is_empty.ensures ∙ and_then_some _ _ _ c.in_ok-field.ensures.value

pub returns-then-not-is_empty : goal.returns-then-not-is_empty
returns-then-not-is_empty c =
    context_goes_on (read_pairs c.in_ok-count.count c.in_ok-count.pairs.now) _ c.in_ok-field.rest.now c.in_ok-end.ensures c.if-not-is_empty.ensures
    ∙ number_some 2 _ _ _ (context_of c.in_ok-field.rest.now) c.in_ok-count.ensures.value ∙ pick_no _ _ _ c.if-is_empty.ensures ∙ and_then_some _ _ _ c.in_ok-field.ensures.value

pub returns : goal.returns
returns c =
    context_some c.in_ok-count.count c.in_ok-count.pairs.now _ c.in_ok-field.rest.now (omega arith) c.in_ok-end.ensures c.if-not-is_empty.ensures
    ∙ number_some 2 _ _ _ (context_of c.in_ok-field.rest.now) c.in_ok-count.ensures.value ∙ pick_no _ _ _ c.if-is_empty.ensures ∙ and_then_some _ _ _ c.in_ok-field.ensures.value
