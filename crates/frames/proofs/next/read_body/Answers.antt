use Rattle.std.proofs.Common.{ap, ◌∙◌, arith}
use Rattle.octets.proofs.Cuts.{and_then_some, and_then_none, cut_some, cut_none}
use Rattle.frames.specs.Next.{next_frame}
use Rattle.frames.proofs.next.read_body.Goals as goal

pub returns-in_err-ciphertext : goal.returns-in_err-ciphertext
returns-in_err-ciphertext c = ap next_frame c.from_residual.ensures ∙ and_then_none _ _ (cut_none _ _ c.in_err-ciphertext.ensures.cases)

pub returns-in_err-tag : goal.returns-in_err-tag
returns-in_err-tag c =
    let o = c.in_ok-ciphertext.ensures.cases in
    ap next_frame c.from_residual-in_err-tag.ensures ∙ and_then_none _ _ (cut_none 16 _ c.in_err-tag.ensures.cases) ∙ and_then_some _ _ _ (cut_some _ _ _ _ o.0 o.1 o.2)

pub returns : goal.returns
returns c =
    let o = c.in_ok-ciphertext.ensures.cases in
    let t = c.in_ok-tag.ensures.cases in
    and_then_some _ _ _ (cut_some 16 _ _ _ (omega (arith, t.2)) t.0 t.1) ∙ and_then_some _ _ _ (cut_some _ _ _ _ o.0 o.1 o.2)
