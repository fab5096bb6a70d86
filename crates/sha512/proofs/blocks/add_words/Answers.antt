use Rattle.std.proofs.Common.{◌≡◌, length, ◌∙◌, arith, rules, length-set}
use Rattle.sha512.proofs.Schedule.{add_words_more}
use Rattle.sha512.proofs.blocks.add_words.Goals as goal

pub loop-i-preserved : goal.loop-i-preserved
loop-i-preserved c =
    let m : length c.args.a ≡ 8 = search rules in
    let n : length c.args.b ≡ 8 = search rules in (
      length-set c.loop-i.sum c.loop-i.i _ ∙ c.loop-i.invariant.0,
      add_words_more c.args.a c.args.b c.loop-i.sum c.loop-i.i (omega arith) (omega arith) (omega arith) c.loop-i.invariant.1,
    )
