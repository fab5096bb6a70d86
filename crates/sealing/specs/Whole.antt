-- A whole message and its start, kept shut: what is proved of sealing looks no further than these names. These are definitions: they assume nothing.
use Rattle.std.specs.Prelude.{ℕ, ◌+◌, ◌-◌, ◌*◌, ◌/◌, List, ◌++◌}
use Rattle.hkdf.specs.MessageKeys.{sealing_key}
use Rattle.format.specs.Request.{Request}
use Rattle.format.specs.Header.{header_bytes, header_of}
use Rattle.format.specs.Piece.{seal_header}
use Rattle.format.specs.Message.{message}

unfoldable pub sealed_message : Request → List ℕ
sealed_message r = message r

-- what comes before the frames: the header and its tag
unfoldable pub start : Request → List ℕ
start r = header_bytes (header_of r) ++ (seal_header (sealing_key r.key r.id) (header_of r)).tag

-- how long all frames of so long a text are
abbrev pub frames_length : ℕ → ℕ → ℕ
frames_length text frame_length = text + (32 * ((text - 1) / frame_length) + 40)
