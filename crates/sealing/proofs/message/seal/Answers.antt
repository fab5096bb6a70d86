use Rattle.std.proofs.Common.{length, sym, refl, ◌∙◌}
use Rattle.std.proofs.lemmas.Result.{err_from_is_err_and}
use Rattle.header.specs.Models.{request_of}
use Rattle.header.proofs.Refusals.{numbers_positive}
use Rattle.sealing.proofs.Answered.{seal_refused, seal_wrong_room, seal_passes, passed_parts}
use Rattle.sealing.proofs.message.seal.Goals as goal

pub returns-in_err-checked : goal.returns-in_err-checked
returns-in_err-checked c =
    let p = err_from_is_err_and c.from_residual.result c.from_residual.ensures.1 in
    rw (p.1, p.2) (record { value = seal_refused (request_of c.args.request) (length c.args.out.now) _ c.in_err-checked.ensures.value (numbers_positive c.in_err-checked.field-0.0); written = refl })

pub checked_len-len-requires : goal.checked_len-len-requires
checked_len-len-requires c =
    let parts = passed_parts (request_of c.args.request) (sym c.in_ok-checked.ensures.value) in
    record { checked = c.in_ok-checked.ensures.checked.header; passed = parts.0; fits = parts.1 }

pub returns-then-out-len : goal.returns-then-out-len
returns-then-out-len c = record {
  value =
      seal_wrong_room (request_of c.args.request) (length c.args.out.now) (sym c.in_ok-checked.ensures.value)
      (λ e. c.if-out-len.true (e ∙ sym (c.checked_len-len.ensures c.args.request.key.now c.args.request.text.now refl)));
  written = refl;
}

pub write_message-requires : goal.write_message-requires
write_message-requires c = record {
  checked = c.in_ok-checked.ensures.checked;
  passed = sym c.in_ok-checked.ensures.value;
  room = c.if-out-len.false ∙ c.checked_len-len.ensures c.args.request.key.now c.args.request.text.now refl;
}

pub returns : goal.returns
returns c = record {
  value =
      seal_passes (request_of c.args.request) (length c.args.out.now) (sym c.in_ok-checked.ensures.value)
      (c.if-out-len.false ∙ c.checked_len-len.ensures c.args.request.key.now c.args.request.text.now refl);
  written = c.write_message.ensures;
}
