use Rattle.octets.proofs.Writing.{writes_then}
use Rattle.frames.proofs.aad.write_aad.Goals as goal

pub returns : goal.returns
returns c =
    rw (← c.label.ensures) (writes_then _ _ _ _ _ _ c.in_ok-put.ensures.value
    (writes_then _ _ _ _ _ _ c.in_ok-put-2.ensures.value (writes_then _ _ _ _ _ _ c.in_ok-put_number.ensures.value c.put_number-2.ensures.value)))
