-- The tables as the values of their rules.
use Rattle.std.proofs.Common.{◌≡◌, ℕ, ◌<◌, List, get_or}
use Rattle.octets.proofs.Lists.{tabulated, table_entry}
use Rattle.aes256.specs.Aes.{sub_byte, rcon}
use Rattle.aes256.specs.Columns.{column, word}

unfoldable pub sbox : List ℕ
sbox = tabulated sub_byte 256 0

pub sbox_entry : (k : ℕ) → k < 256 → get_or sbox k 0 ≡ sub_byte k
unfolding sbox
sbox_entry k h = table_entry sub_byte 256 k h

unfoldable pub round_table : List ℕ
round_table = tabulated (λ x. column (sub_byte x)) 256 0

pub round_table_entry : (k : ℕ) → k < 256 → get_or round_table k 0 ≡ column (sub_byte k)
unfolding round_table
round_table_entry k h = table_entry (λ x. column (sub_byte x)) 256 k h

unfoldable pub round_constants : List ℕ
round_constants = tabulated (λ n. word (rcon n) 0 0 0) 7 0

pub round_constant_entry : (k : ℕ) → k < 7 → get_or round_constants k 0 ≡ word (rcon k) 0 0 0
unfolding round_constants
round_constant_entry k h = table_entry (λ n. word (rcon n) 0 0 0) 7 k h
