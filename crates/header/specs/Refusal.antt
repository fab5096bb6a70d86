-- The numbers of refusals. These are definitions: they assume nothing.
use Rattle.std.specs.Prelude.{ℕ}
use Rattle.header.specs.declared.refusal.SealRefusal.{SealRefusal}
use Rattle.header.specs.declared.refusal.SealRefusal.TheVariants.{OutLength, KeyOrIdOrFrameLength, Context, EncryptedDataKeys, Text}

abbrev pub refusal_number : SealRefusal → ℕ
refusal_number OutLength = 1
refusal_number KeyOrIdOrFrameLength = 2
refusal_number Context = 3
refusal_number EncryptedDataKeys = 4
refusal_number Text = 5
