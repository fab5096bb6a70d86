use Rattle.std.proofs.Common.{◌≡◌, ◌+◌, ◌-◌, ◌*◌, ◌/◌, ◌++◌, length, take, drop}
use Rattle.aes256.specs.Aes.{round_keys}
use Rattle.aes256.specs.RoundKeys.{key_of}
use Rattle.gcm.specs.Gcm.{ctr_blocks, ctr}
use Rattle.gcm.proofs.counter.xor_keystream.Given as goal

abbrev pub invariant-loop-i : goal.invariant-loop-i
invariant-loop-i l =
    (take (16 * l.i) l.dst ++ ctr_blocks ((length l.src + 15) / 16 - l.i) (l.i + 2) (round_keys (key_of l.keys)) l.nonce (drop (16 * l.i) l.src)
    ≡ ctr (round_keys (key_of l.keys)) l.nonce l.src)
    × (length l.dst ≡ length l.src)
