-- What a header that passed its checks stands for. These are definitions: they assume nothing.
use Rattle.std.specs.Prelude.{ℕ, List}
use Rattle.format.specs.Header as Hd
use Rattle.header.specs.Models.{pairs, data_keys}
use Rattle.header.specs.declared.asked.Header.{Header}

-- with its commitment
abbrev pub header_of : Header → List ℕ → Hd.Header
header_of h k =
    record { id = h.id; context = pairs h.context.pairs.now; encrypted_data_keys = data_keys h.data_keys.keys.now; frame_length = h.frame_length; commitment = k }
