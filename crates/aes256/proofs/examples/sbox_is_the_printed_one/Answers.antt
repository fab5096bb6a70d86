use Rattle.aes256.proofs.PrintedValues.{sub_byte_printed}
use Rattle.aes256.proofs.examples.sbox_is_the_printed_one.Goals as goal

pub returns : goal.returns
returns c = record { value = sub_byte_printed }
