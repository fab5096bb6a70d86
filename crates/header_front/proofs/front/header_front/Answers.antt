use Rattle.std.proofs.Common.{refl, arith}
use Rattle.header_read.specs.Parts.{read_header_in}
use Rattle.opening.proofs.Unlocking.{all_bytes_of}
use Rattle.header_front.proofs.Settling.{header_whole, rest_within}
use Rattle.header_front.proofs.front.header_front.Goals as goal

pub overflow_sub-result : goal.overflow_sub-result
overflow_sub-result c = rest_within c.args.bytes.now (read_header_in c.in-Some.read) (all_bytes_of c.args.bytes.now (λ i. omega (arith, c.type_inv.bytes i))) c.in-Some.ensures.value

pub returns-in-Some : goal.returns-in-Some
returns-in-Some c = record { value = header_whole c.args.bytes.now (read_header_in c.in-Some.read) _ (all_bytes_of c.args.bytes.now (λ i. omega (arith, c.type_inv.bytes i))) c.in-Some.ensures.value refl }
