use Rattle.std.proofs.Common.{None, subst}
use Rattle.octets.specs.Writing.{Writes, Lacked}
use Rattle.octets.proofs.Writing.{writes_then, lacked_then}
use Rattle.header.proofs.Writes.{as_written}
use Rattle.header.proofs.asked.Header.put.Goals as goal

pub returns-in_err-put-4 : goal.returns-in_err-put-4
returns-in_err-put-4 c =
    rw c.from_residual-in_err-put-4.ensures (record {
      value = subst (λ l. Lacked c.args.to.now l c.put-4.new.to) (as_written c.args.self c.args.commitment.now)
          (writes_then _ _ _ _ _ None c.in_ok-put.ensures.value (writes_then _ _ _ _ _ None c.in_ok-put-2.ensures.value (lacked_then _ _ _ _ _ _ c.in_ok-put-3.ensures c.in_err-put-4.ensures)));
    })

pub returns-in_err-put-5 : goal.returns-in_err-put-5
returns-in_err-put-5 c =
    rw c.from_residual-in_err-put-5.ensures (record {
      value = subst (λ l. Lacked c.args.to.now l c.put-5.new.self) (as_written c.args.self c.args.commitment.now)
          (writes_then _ _ _ _ _ None c.in_ok-put.ensures.value (writes_then _ _ _ _ _ None c.in_ok-put-2.ensures.value (writes_then _ _ _ _ _ None c.in_ok-put-3.ensures (lacked_then _ _ _ _ _ _ c.in_ok-put-4.ensures c.in_err-put-5.ensures.value))));
    })

pub returns-in_err-put_number : goal.returns-in_err-put_number
returns-in_err-put_number c =
    rw c.from_residual-in_err-put_number.ensures (record {
      value = subst (λ l. Lacked c.args.to.now l c.put_number.new.self) (as_written c.args.self c.args.commitment.now)
          (writes_then _ _ _ _ _ None c.in_ok-put.ensures.value (writes_then _ _ _ _ _ None c.in_ok-put-2.ensures.value (writes_then _ _ _ _ _ None c.in_ok-put-3.ensures (writes_then _ _ _ _ _ None c.in_ok-put-4.ensures (lacked_then _ _ _ _ _ _ c.in_ok-put-5.ensures.value c.in_err-put_number.ensures.value)))));
    })

pub returns : goal.returns
returns c =
    record {
      value = subst (λ l. Writes c.args.to.now l c.put-6.result c.put-6.new.self) (as_written c.args.self c.args.commitment.now)
          (writes_then _ _ _ _ _ _ c.in_ok-put.ensures.value (writes_then _ _ _ _ _ _ c.in_ok-put-2.ensures.value (writes_then _ _ _ _ _ _ c.in_ok-put-3.ensures (writes_then _ _ _ _ _ _ c.in_ok-put-4.ensures (writes_then _ _ _ _ _ _ c.in_ok-put-5.ensures.value (writes_then _ _ _ _ _ c.put-6.result c.in_ok-put_number.ensures.value c.put-6.ensures.value))))));
    }
