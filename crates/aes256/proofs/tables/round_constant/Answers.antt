use Rattle.std.proofs.Common.{arith}
use Rattle.octets.specs.Bits.{pick}
use Rattle.aes256.specs.Aes.{rcon}
use Rattle.aes256.proofs.TableRules.{round_constants, round_constant_entry}
use Rattle.aes256.proofs.tables.round_constant.Goals as goal

pub returns : goal.returns
unfolding round_constants rcon pick
returns c = round_constant_entry c.args.n (omega arith)
