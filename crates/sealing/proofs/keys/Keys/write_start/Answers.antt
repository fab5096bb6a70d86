use Rattle.std.proofs.Common.{length, sym, refl, ◌∙◌, arith}
use Rattle.header.specs.Written.{asked_bytes}
use Rattle.header.proofs.Writes.{is_written}
use Rattle.sealing.proofs.Answered.{ok_of_zero}
use Rattle.sealing.proofs.Messages.{tagged}
use Rattle.sealing.proofs.keys.Keys.write_start.Goals as goal

pub unwrap-end-requires : goal.unwrap-end-requires
unwrap-end-requires c =
    ok_of_zero _
    (c.write_header.ensures.value ∙ sym (is_written c.args.header c.args.self.now.commitment (length c.args.out.now) (sym c.requires.passed) (let room = c.requires.room in omega arith)))

pub returns : goal.returns
returns c =
    let h = rw c.unwrap-end.ensures at c.write_header.ensures.written in
    let t = rw c.unwrap.ensures at c.put.ensures.value in
    tagged c.args.out.now c.write_header.new.out c.put.new.out (asked_bytes c.args.header c.args.self.now.commitment) _ _ c.unwrap-end.result c.unwrap.result _ h refl c.header_tag-tag.ensures.value t
