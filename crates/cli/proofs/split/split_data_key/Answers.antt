use Rattle.std.proofs.Common.{Some, None, ap, ◌∙◌, arith}
use Rattle.std.specs.Option.{option_map}
use Rattle.cli.specs.Split.{after_id, split_rest, data_key_parts}
use Rattle.cli.proofs.Splits.{splits_first, splits_last}
use Rattle.cli.proofs.split.split_data_key.Goals as goal

pub returns-in_err-provider_id : goal.returns-in_err-provider_id
returns-in_err-provider_id c =
    record { value = ap (option_map data_key_parts) c.from_residual.ensures ∙ ap split_rest (splits_first 58 c.args.text.now None (omega arith) c.in_err-provider_id.ensures.cases) }

pub returns-in_err-provider_info : goal.returns-in_err-provider_info
returns-in_err-provider_info c =
    record {
      value =
          ap (option_map data_key_parts) c.from_residual-in_err-provider_info.ensures
          ∙ ap (option_map (after_id c.in_ok-provider_id.provider_id.now)) (splits_last 58 c.in_ok-provider_id.rest.now None (omega arith) c.in_err-provider_info.ensures.cases)
          ∙ ap split_rest (splits_first 58 c.args.text.now (Some (c.in_ok-provider_id.provider_id, c.in_ok-provider_id.rest)) (omega arith) c.in_ok-provider_id.ensures.cases);
    }

pub returns : goal.returns
returns c =
    record {
      value =
          ap (option_map (after_id c.in_ok-provider_id.provider_id.now))
          (splits_last 58 c.in_ok-provider_id.rest.now (Some (c.in_ok-provider_info.provider_info, c.in_ok-provider_info.file)) (omega arith) c.in_ok-provider_info.ensures.cases)
          ∙ ap split_rest (splits_first 58 c.args.text.now (Some (c.in_ok-provider_id.provider_id, c.in_ok-provider_id.rest)) (omega arith) c.in_ok-provider_id.ensures.cases);
    }
