-- Of a message that isn't opened nothing is left but zeros: what the promise's last part asks of the library.
use Rattle.std.specs.Prelude.{◌≡◌, ℕ, Bool, true, false, List, length, nat_lt, refl}
use Rattle.octets.specs.Bits.{pick}
use Rattle.octets.specs.Bytes.{repeat}
use Rattle.format.specs.Opening.{not_opened}
use Rattle.strongbox.specs.Answers.{left_by, left_in}

zeros_by : (short : Bool) (n a b : ℕ) → left_by (pick short (not_opened 1 0) (not_opened a b)) n ≡ repeat n 0
unfolding pick
zeros_by true n a b = refl
zeros_by false n a b = refl

pub left_zeros : (n : ℕ) (bs : List ℕ) (a b : ℕ) → left_in n bs (not_opened a b) ≡ repeat n 0
left_zeros n bs a b = zeros_by (nat_lt n (length bs)) n a b
