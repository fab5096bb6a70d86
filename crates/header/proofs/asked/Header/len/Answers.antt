use Rattle.std.proofs.Common.{arith}
use Rattle.header.specs.Asked.{header_of}
use Rattle.header.proofs.Lengths.{context_short, data_keys_bounded, length_header}
use Rattle.header.proofs.asked.Header.len.Goals as goal

pub overflow_add-result : goal.overflow_add-result
overflow_add-result c =
    let s = context_short c.args.self.context.pairs.now in
    omega (arith, c.args.self.context.long, c.args.self.context.fits)

pub overflow_add-result-2 : goal.overflow_add-result-2
overflow_add-result-2 c =
    let s = context_short c.args.self.context.pairs.now in
    let d = data_keys_bounded c.args.self.data_keys.keys.now c.args.self.data_keys.few c.args.self.data_keys.short in
    omega (arith, c.args.self.context.long, c.args.self.context.fits)

pub returns : goal.returns
returns c = record { value = λ k e. omega (arith, length_header (header_of c.args.self k)) }
