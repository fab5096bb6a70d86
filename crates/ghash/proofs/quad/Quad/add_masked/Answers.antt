use Rattle.std.proofs.Common.{arith}
use Rattle.ghash.proofs.Quads.{words_add_bit}
use Rattle.ghash.proofs.quad.Quad.add_masked.Goals as goal

pub returns : goal.returns
returns c =
    words_add_bit c.args.bit c.wrapping_neg-mask.result c.args.self.a c.args.self.b c.args.self.c c.args.self.d c.args.v.a c.args.v.b
    c.args.v.c c.args.v.d c.requires c.wrapping_neg-mask.ensures (omega arith) (omega arith) (omega arith) (omega arith) (omega arith) (omega arith) (omega arith) (omega arith) (omega arith)
