use Rattle.std.proofs.Common.{[], length, sym, refl, ap, ◌∙◌, arith}
use Rattle.std.proofs.lemmas.Result.{err_from_is_err_and}
use Rattle.std.proofs.lemmas.Bool.{eqb-true}
use Rattle.header.specs.Models.{request_with}
use Rattle.header.proofs.Lengths.{some_cond}
use Rattle.header.proofs.Refusals.{numbers_positive, header_passed}
use Rattle.sealing.proofs.Answered.{start_no_key, start_refused, start_no_room, start_passes}
use Rattle.sealing.proofs.Messages.{start_as_checked, start_of_keys_written, header_short}
use Rattle.sealing.proofs.state.Sealer.begin.Goals as goal

pub returns-in_err-key-clause-value : goal.returns-in_err-key-clause-value
returns-in_err-key-clause-value c =
    let p = err_from_is_err_and c.from_residual.result c.from_residual.ensures.1 in
    start_no_key c.args.key.now c.args.header (length c.args.out.now) c.array_32.result _ _ c.from_residual.result c.array_32.ensures.value c.in_err-key.ensures.value p.1 p.2

pub returns-in_err-checked : goal.returns-in_err-checked
returns-in_err-checked c =
    let p = err_from_is_err_and c.from_residual-in_err-checked.result c.from_residual-in_err-checked.ensures.1 in
    let k = eqb-true _ _ (some_cond _ _ _ (sym c.in_ok-key.ensures.ok_part ∙ c.array_32.ensures.value)).0 in
    rw (p.1, p.2) (record { value = start_refused c.args.key.now c.args.header (length c.args.out.now) _ k c.in_err-checked.ensures.value (numbers_positive c.in_err-checked.field-0.0); written = refl })

pub overflow_add-checked : goal.overflow_add-checked
overflow_add-checked c = let short = header_short c.args.header c.in_ok-checked.checked (sym c.in_ok-checked.ensures.value) c.in_ok-checked.ensures.checked in omega arith

pub returns-then-out-checked : goal.returns-then-out-checked
returns-then-out-checked c =
    let k = eqb-true _ _ (some_cond _ _ _ (sym c.in_ok-key.ensures.ok_part ∙ c.array_32.ensures.value)).0 in
    let long = start_as_checked c.args.key.now c.args.header [] c.in_ok-checked.checked c.in_ok-checked.ensures.checked in
    record { value = start_no_room c.args.key.now c.args.header (length c.args.out.now) k c.in_ok-checked.ensures.value (omega arith); written = refl }

pub invariant_of-sealer : goal.invariant_of-sealer
invariant_of-sealer c =
    let p = header_passed (request_with [] c.args.header []) c.in_ok-checked.ensures.value in
    record { long = ap length (c.new-keys.ensures.id ∙ c.in_ok-checked.ensures.checked.id) ∙ p.id; some = p.frame_length; fits = omega arith; counted = omega arith; few = omega arith }

pub returns : goal.returns
returns c =
    let k = some_cond _ _ _ (sym c.in_ok-key.ensures.ok_part ∙ c.array_32.ensures.value) in
    let checked = c.in_ok-checked.ensures.checked in
    let keys = rw (k.1, checked.id) at c.new-keys.ensures in
    let long = start_as_checked c.args.key.now c.args.header [] c.in_ok-checked.checked c.in_ok-checked.ensures.checked in
    record {
      value = start_passes c.args.key.now c.args.header (length c.args.out.now) (eqb-true _ _ k.0) c.in_ok-checked.ensures.value (omega arith);
      written = (
        record { key_long = eqb-true _ _ k.0; passed = sym c.in_ok-checked.ensures.value; cipher = keys.sealing_key; id = keys.id; frame_length = refl; number = refl; unfinished = refl },
        start_of_keys_written c.args.key.now c.args.header [] _ _ _ _ keys c.write_start-len.ensures,
      );
    }
