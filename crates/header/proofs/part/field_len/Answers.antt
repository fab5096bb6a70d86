use Rattle.std.proofs.Common.{sym}
use Rattle.std.proofs.lemmas.Bool.{le-leb}
use Rattle.header.proofs.Lengths.{length-field}
use Rattle.header.proofs.Parts.{length_if_true}
use Rattle.header.proofs.part.field_len.Goals as goal

pub returns : goal.returns
returns c = length_if_true _ _ _ (le-leb _ _ c.if-bytes-gt-MAX_FIELD.false) (sym (length-field c.args.bytes.now))
