use Rattle.std.proofs.Common.{rules}
use Rattle.std.proofs.lemmas.Fn.{always_returns_same}
use Rattle.header.proofs.Rising.{comes_before, rising_told}
use Rattle.header.proofs.context.names_rise.Goals as goal

pub returns : goal.returns
returns c = rising_told c.args.pairs.now c.is_sorted_by.result (c.is_sorted_by.ensures.cases comes_before (always_returns_same _ _ _ (λ a r f k. search rules)))
