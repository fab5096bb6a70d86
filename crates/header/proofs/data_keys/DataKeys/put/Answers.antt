use Rattle.std.proofs.Common.{◌++◌, length, ◌∙◌, subst}
use Rattle.octets.specs.Bytes.{to_bytes}
use Rattle.octets.specs.Writing.{Writes}
use Rattle.header.proofs.Parts.{data_keys_flat, data_keys_all_short}
use Rattle.header.proofs.data_keys.DataKeys.put.Goals as goal

pub put_parts-requires-clause-short : goal.put_parts-requires-clause-short
put_parts-requires-clause-short c = data_keys_all_short c.args.self.keys.now ∙ c.args.self.short

pub returns : goal.returns
returns c =
    subst (λ l. Writes c.args.to.now (to_bytes 2 (length c.args.self.keys.now) ++ l) c.put_parts.result c.put_parts.new.to) (data_keys_flat c.args.self.keys.now) c.put_parts.ensures
