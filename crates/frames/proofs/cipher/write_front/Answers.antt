use Rattle.std.proofs.Common.{None}
use Rattle.octets.proofs.Writing.{writes_then, lacked_more}
use Rattle.format.specs.Request.{end_marker}
use Rattle.frames.proofs.cipher.write_front.Goals as goal

pub returns-in_err-put_number-in-Final : goal.returns-in_err-put_number-in-Final
unfolding end_marker
returns-in_err-put_number-in-Final c = rw (c.in-Final.is, c.from_residual-in_err-put_number-in-Final.ensures) (lacked_more _ _ _ _ c.in_err-put_number-in-Final.ensures.value)

pub returns-in_err-put_number-in-Final-2 : goal.returns-in_err-put_number-in-Final-2
unfolding end_marker
returns-in_err-put_number-in-Final-2 c =
    rw (c.in-Final.is, c.from_residual-in_err-put_number-in-Final-2.ensures) (writes_then _ _ _ _ _ None c.in_ok-put_number-in-Final.ensures.value (lacked_more _ _ _ _ c.in_err-put_number-in-Final-2.ensures.value))

pub returns-in_err-put-in-Final : goal.returns-in_err-put-in-Final
unfolding end_marker
returns-in_err-put-in-Final c =
    rw (c.in-Final.is, c.from_residual-in_err-put-in-Final.ensures, ← c.frame_nonce-in-Final.ensures.value)
    (writes_then _ _ _ _ _ None c.in_ok-put_number-in-Final.ensures.value
    (writes_then _ _ _ _ _ None c.in_ok-put_number-in-Final-2.ensures.value (lacked_more _ _ _ _ c.in_err-put-in-Final.ensures.value)))

pub returns-in_ok-put_number-in-Regular : goal.returns-in_ok-put_number-in-Regular
returns-in_ok-put_number-in-Regular c =
    rw (c.in-Regular.is, ← c.frame_nonce.ensures.value) (writes_then _ _ _ _ _ _ c.in_ok-put_number-in-Regular.ensures.value c.put.ensures.value)

pub returns-in_ok-put-in-Final : goal.returns-in_ok-put-in-Final
unfolding end_marker
returns-in_ok-put-in-Final c =
    rw (c.in-Final.is, ← c.frame_nonce-in-Final.ensures.value)
    (writes_then _ _ _ _ _ _ c.in_ok-put_number-in-Final.ensures.value
    (writes_then _ _ _ _ _ _ c.in_ok-put_number-in-Final-2.ensures.value (writes_then _ _ _ _ _ _ c.in_ok-put-in-Final.ensures.value c.put_number-in-Final-3.ensures.value)))
