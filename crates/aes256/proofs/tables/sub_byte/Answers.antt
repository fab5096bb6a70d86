use Rattle.std.proofs.Common.{arith}
use Rattle.octets.specs.Bits.{pick, bits_xor, pow2}
use Rattle.aes256.specs.Field.{mul_steps}
use Rattle.aes256.specs.Aes.{sub_byte}
use Rattle.aes256.proofs.TableRules.{sbox, sbox_entry}
use Rattle.aes256.proofs.tables.sub_byte.Goals as goal

-- the rule's values, computed at all 256 places, are the entries
pub returns : goal.returns
unfolding sbox sub_byte pick bits_xor pow2 mul_steps
returns c = sbox_entry c.args.x (omega arith)
