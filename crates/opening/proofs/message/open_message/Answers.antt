use Rattle.std.proofs.Common.{◌∙◌, arith}
use Rattle.std.proofs.lemmas.Result.{err_from_is_err_and}
use Rattle.header_read.specs.Parts.{header_in, read_header_in}
use Rattle.opening.proofs.Unlocking.{split, opening_none, opening_some}
use Rattle.opening.proofs.message.open_message.Goals as goal

pub returns-in_default : goal.returns-in_default
returns-in_default c = record { value = opening_none c.args.key.now c.args.message.now c.in_default.ensures.value; within = omega arith }

pub returns-in_err-unlocked : goal.returns-in_err-unlocked
returns-in_err-unlocked c =
    let p = err_from_is_err_and c.from_residual.result c.from_residual.ensures.1 in
    rw (p.1, p.2) (record {
      value = c.in_err-unlocked.ensures c.in-Some.read.rest.now ∙ opening_some c.args.key.now c.args.message.now (read_header_in c.in-Some.read) c.in-Some.ensures.value;
      within = omega arith;
    })

pub open_frames-opened-requires : goal.open_frames-opened-requires
open_frames-opened-requires c =
    let s = (split c.args.message.now (read_header_in c.in-Some.read) (λ i. omega (arith, c.type_inv.message i)) c.in-Some.ensures.value).sum in
    omega arith

pub returns-in_err-opened : goal.returns-in_err-opened
returns-in_err-opened c =
    let p = err_from_is_err_and c.from_residual-in_err-opened.result c.from_residual-in_err-opened.ensures.1 in
    rw (p.1, p.2) (record {
      value =
          c.in_err-opened.ensures.value (header_in c.in-Some.read.header) c.in_ok-unlocked.ensures.0 ∙ c.in_ok-unlocked.ensures.1 c.in-Some.read.rest.now
          ∙ opening_some c.args.key.now c.args.message.now (read_header_in c.in-Some.read) c.in-Some.ensures.value;
      within = omega arith;
    })

pub returns : goal.returns
returns c = record {
  value =
      c.in_ok-opened.ensures.value (header_in c.in-Some.read.header) c.in_ok-unlocked.ensures.0 ∙ c.in_ok-unlocked.ensures.1 c.in-Some.read.rest.now
      ∙ opening_some c.args.key.now c.args.message.now (read_header_in c.in-Some.read) c.in-Some.ensures.value;
  within = c.in_ok-opened.ensures.within;
}
