use Rattle.std.proofs.Common.{[], ◌++◌, length, sym, refl, ap, ◌∙◌, ⊎_elim, arith}
use Rattle.std.proofs.lemmas.List.{append-nil}
use Rattle.std.proofs.lemmas.Result.{err_from_is_err_and}
use Rattle.octets.proofs.Bits.{pick_false}
use Rattle.gcm.specs.Key.{key_of}
use Rattle.format.specs.Reading.{read_header}
use Rattle.format.proofs.Further.{header_grows, header_on}
use Rattle.header_read.specs.Parts.{header_in, read_header_in}
use Rattle.opening.specs.Unlocked.{open_rest}
use Rattle.opening.proofs.Unlocking.{split, opening_none, opening_some}
use Rattle.opening.proofs.state.Opener.new.Goals as goal

pub returns-in_default : goal.returns-in_default
returns-in_default c = record {
  value = λ more.
      ⊎_elim (λ z. opening_none c.args.key.now (c.args.bytes.now ++ more) (c.in_default.ensures.value ∙ ap read_header (sym (append-nil c.args.bytes.now) ∙ ap (λ l. c.args.bytes.now ++ l) (sym z))))
      (λ l. absurd (let e = ap length c.in_default.ensures.value in omega arith));
}

pub returns-in_err-unlocked : goal.returns-in_err-unlocked
returns-in_err-unlocked c =
    let p = err_from_is_err_and c.from_residual.result c.from_residual.ensures.1 in
    rw (p.1, p.2) (record {
      value = λ more w.
          c.in_err-unlocked.ensures (c.in-Some.read.rest.now ++ more)
          ∙ opening_some c.args.key.now (c.args.bytes.now ++ more) (header_on more (read_header_in c.in-Some.read)) (sym (header_grows more c.args.bytes.now (read_header_in c.in-Some.read) [] (sym c.in-Some.ensures.value)));
    })

pub overflow_sub-result : goal.overflow_sub-result
overflow_sub-result c = let s = (split c.args.bytes.now (read_header_in c.in-Some.read) (λ i. omega (arith, c.type_inv.bytes i)) c.in-Some.ensures.value).sum in omega arith

pub returns : goal.returns
returns c =
    let s = split c.args.bytes.now (read_header_in c.in-Some.read) (λ i. omega (arith, c.type_inv.bytes i)) c.in-Some.ensures.value in
    record {
      value = record {
        read = read_header_in c.in-Some.read;
        found = c.in-Some.ensures.value;
        matches = c.in_ok-unlocked.ensures.0;
        rest = s.rest;
        comes = λ more.
            pick_false _ _ _ refl ∙ ap (λ l. open_rest (key_of c.in_ok-unlocked.unlocked.cipher.key) (header_in c.in-Some.read.header) 1 [] (l ++ more)) s.rest
            ∙ c.in_ok-unlocked.ensures.1 (c.in-Some.read.rest.now ++ more)
            ∙ opening_some c.args.key.now (c.args.bytes.now ++ more) (header_on more (read_header_in c.in-Some.read)) (sym (header_grows more c.args.bytes.now (read_header_in c.in-Some.read) [] (sym c.in-Some.ensures.value)));
      };
    }
