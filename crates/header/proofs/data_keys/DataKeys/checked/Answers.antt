use Rattle.std.proofs.Common.{sym, ◌∙◌, inl, inr, arith, eqb-true, false-eqb}
use Rattle.header.proofs.Lengths.{data_keys_none_or_many, data_keys_fit}
use Rattle.header.proofs.Parts.{keys_none, keys_some}
use Rattle.header.proofs.data_keys.DataKeys.checked.Goals as goal
use Rattle.header.proofs.data_keys.DataKeys.checked.Goals.{then-is_empty-via-then-is_empty, then-is_empty-via-else-is_empty+then-keys-gt-MAX_FIELD}

pub returns-then-is_empty-clause-value : goal.returns-then-is_empty-clause-value
returns-then-is_empty-clause-value c =
    data_keys_none_or_many c.args.keys.now (elim c.then-is_empty.branch [
      | then-is_empty-via-then-is_empty w ↦ inl (eqb-true _ 0 (sym c.is_empty.ensures ∙ w.if-is_empty.true))
      | then-is_empty-via-else-is_empty+then-keys-gt-MAX_FIELD w ↦ inr w.if-keys-gt-MAX_FIELD.true
    ])

pub returns-in_err-keys_len-clause-value : goal.returns-in_err-keys_len-clause-value
returns-in_err-keys_len-clause-value c = rw c.from_residual.ensures (keys_none c.args.keys.now c.if-keys-gt-MAX_FIELD.false c.in_err-keys_len.ensures)

pub invariant_of-result : goal.invariant_of-result
invariant_of-result c =
    let s = keys_some c.args.keys.now _ c.in_ok-keys_len.ensures in
    record { few = c.if-keys-gt-MAX_FIELD.false; long = s.0; short = s.1 }

pub returns-clause-value : goal.returns-clause-value
returns-clause-value c =
    let s = keys_some c.args.keys.now _ c.in_ok-keys_len.ensures in
    data_keys_fit c.args.keys.now _ (omega (arith, false-eqb _ 0 c.if-is_empty.ensures)) c.if-keys-gt-MAX_FIELD.false s.1 s.0
