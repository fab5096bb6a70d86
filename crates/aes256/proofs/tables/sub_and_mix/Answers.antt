use Rattle.std.proofs.Common.{arith}
use Rattle.octets.specs.Bits.{pick, bits_xor, pow2}
use Rattle.aes256.specs.Field.{mul_steps}
use Rattle.aes256.specs.Aes.{sub_byte}
use Rattle.aes256.proofs.TableRules.{round_table, round_table_entry}
use Rattle.aes256.proofs.tables.sub_and_mix.Goals as goal

-- the rule's values, computed at all 256 places, are the entries
pub returns : goal.returns
unfolding round_table sub_byte pick bits_xor pow2 mul_steps
returns c = round_table_entry c.args.x (omega arith)
