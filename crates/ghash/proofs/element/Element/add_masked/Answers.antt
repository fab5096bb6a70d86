use Rattle.std.proofs.Common.{◌∙◌, arith}
use Rattle.ghash.proofs.Words.{words_add}
use Rattle.ghash.proofs.element.Element.add_masked.Goals as goal

pub returns : goal.returns
returns c =
    c.add.ensures
    ∙ words_add c.args.bit c.wrapping_neg-mask.result c.args.self.hi c.args.self.lo c.args.v.hi c.args.v.lo c.requires c.wrapping_neg-mask.ensures
    (omega arith) (omega arith) (omega arith) (omega arith) (omega arith)
