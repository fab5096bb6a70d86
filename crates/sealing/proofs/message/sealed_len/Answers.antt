use Rattle.std.proofs.Common.{◌∙◌}
use Rattle.sealing.proofs.Answered.{key_is_refused, length_is_refusal, length_told}
use Rattle.sealing.proofs.message.sealed_len.Goals as goal

pub returns-then-request-ne-KEY_LENGTH : goal.returns-then-request-ne-KEY_LENGTH
returns-then-request-ne-KEY_LENGTH c = record {
  value = key_is_refused c.args.request.key.now c.args.request.header c.args.request.text.now c.if-request-ne-KEY_LENGTH.true;
  told = tt;
}

pub returns : goal.returns
returns c = record {
  value = c.message_len.ensures.value ∙ length_is_refusal c.args.request.key.now c.args.request.header c.args.request.text.now c.if-request-ne-KEY_LENGTH.false;
  told = length_told c.args.request.key.now c.args.request.header c.args.request.text.now _ c.message_len.ensures.told;
}
