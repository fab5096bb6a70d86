use Rattle.std.proofs.Common.{ap, ◌∙◌, arith}
use native.Mathlib.Nat.{sub-zero}
use Rattle.octets.specs.Bytes.{bytes_eq}
use Rattle.gcm.specs.Key.{key_of}
use Rattle.frames.specs.Cipher.{header_tag}
use Rattle.header_read.specs.Parts.{read_header_in}
use Rattle.opening.proofs.Unlocking.{split}
use Rattle.opening.proofs.unlock.header_tag_right.Goals as goal

pub overflow_sub-end : goal.overflow_sub-end
overflow_sub-end c = let s = (split c.args.bytes.now (read_header_in c.args.read) (λ i. omega (arith, c.type_inv.bytes i)) c.requires).sum in omega arith

pub overflow_sub-end-2 : goal.overflow_sub-end-2
overflow_sub-end-2 c = let s = (split c.args.bytes.now (read_header_in c.args.read) (λ i. omega (arith, c.type_inv.bytes i)) c.requires).sum in omega arith

pub returns : goal.returns
returns c =
    let s = split c.args.bytes.now (read_header_in c.args.read) (λ i. omega (arith, c.type_inv.bytes i)) c.requires in
    c.equal.ensures.value
    ∙ ap (λ l. bytes_eq l c.args.read.tag.now) (c.header_tag-tag.ensures.value ∙ ap (λ l. header_tag (key_of c.args.cipher.now.key) l) (s.front _ (sub-zero _)))
