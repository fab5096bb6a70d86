-- Messages as they are sealed. These are definitions: they assume nothing.
use Rattle.std.specs.Prelude.{ℕ, zero, suc, true, false, List, [], ◌∷◌, ◌++◌, length, nat_lt}
use Rattle.octets.specs.Bits.{pick}
use Rattle.octets.specs.Bytes.{take, drop}
use Rattle.hkdf.specs.MessageKeys.{sealing_key}
use Rattle.format.specs.Request.{Request}
use Rattle.format.specs.Header.{header_bytes, header_of}
use Rattle.format.specs.Piece.{Piece, header_piece, frame_piece, seal_frame, frame_bytes, final_bytes, seal_header}

-- frames from number n on: regular ones as long as more than a frame length of text is left, then the final one
unfoldable pub frames : ℕ → List ℕ → List ℕ → ℕ → ℕ → List ℕ → List ℕ
frames zero dk id size n t = []
frames (suc k) dk id size n t =
    pick (nat_lt size (length t)) (frame_bytes n (seal_frame dk id false n (take size t)) ++ frames k dk id size (suc n) (drop size t)) (final_bytes n (seal_frame dk id true n t))

unfoldable pub frame_pieces : ℕ → List ℕ → List ℕ → ℕ → ℕ → List ℕ → List Piece
frame_pieces zero dk id size n t = []
frame_pieces (suc k) dk id size n t =
    pick (nat_lt size (length t)) (frame_piece dk id false n (seal_frame dk id false n (take size t)) ∷ frame_pieces k dk id size (suc n) (drop size t)) (frame_piece dk id true n (seal_frame dk id true n t) ∷ [])

abbrev pub message : Request → List ℕ
message r =
    let dk : List ℕ = sealing_key r.key r.id in
    header_bytes (header_of r) ++ ((seal_header dk (header_of r)).tag ++ frames (suc (length r.text)) dk r.id r.frame_length 1 r.text)

-- every piece that a request seals
abbrev pub pieces : Request → List Piece
pieces r =
    let dk : List ℕ = sealing_key r.key r.id in
    header_piece dk (header_of r) (seal_header dk (header_of r)) ∷ frame_pieces (suc (length r.text)) dk r.id r.frame_length 1 r.text
