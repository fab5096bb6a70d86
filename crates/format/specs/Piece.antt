-- What one AEAD call takes and gives, and how it stands in a message. These are definitions: they assume nothing.
use Rattle.std.specs.Prelude.{ℕ, Bool, List, [], ◌∷◌, ◌++◌, length}
use Rattle.octets.specs.Bits.{pick}
use Rattle.octets.specs.Bytes.{repeat, to_bytes}
use Rattle.gcm.specs.Gcm.{Sealed, seal}
use Rattle.format.specs.Request.{end_marker}
use Rattle.format.specs.Header.{Header, header_bytes}

-- a piece: what was sealed, with which key, nonce and additional data
pub record Piece : Type 0 where
  pub key : List ℕ
  pub nonce : List ℕ
  pub aad : List ℕ
  pub sealed : Sealed

-- AWSKMSEncryptionClient Frame
unfoldable pub regular_label : List ℕ
regular_label = 65 ∷ (87 ∷ (83 ∷ (75 ∷ (77 ∷ (83 ∷ (69 ∷ (110 ∷ (99 ∷ (114 ∷ (121 ∷ (112 ∷ (116 ∷ (105 ∷ (111 ∷ (110 ∷ (67 ∷ (108 ∷ (105 ∷ (101 ∷ (110 ∷ (116 ∷ (32 ∷ (70 ∷ (114 ∷ (97 ∷ (109 ∷ (101 ∷ [])))))))))))))))))))))))))))

-- AWSKMSEncryptionClient Final Frame
unfoldable pub final_label : List ℕ
final_label = 65 ∷ (87 ∷ (83 ∷ (75 ∷ (77 ∷ (83 ∷ (69 ∷ (110 ∷ (99 ∷ (114 ∷ (121 ∷ (112 ∷ (116 ∷ (105 ∷ (111 ∷ (110 ∷ (67 ∷ (108 ∷ (105 ∷ (101 ∷ (110 ∷ (116 ∷ (32 ∷ (70 ∷ (105 ∷ (110 ∷ (97 ∷ (108 ∷ (32 ∷ (70 ∷ (114 ∷ (97 ∷ (109 ∷ (101 ∷ [])))))))))))))))))))))))))))))))))

abbrev pub frame_aad : List ℕ → Bool → ℕ → ℕ → List ℕ
frame_aad id last n k = id ++ (pick last final_label regular_label ++ (to_bytes 4 n ++ to_bytes 8 k))

abbrev pub header_piece : List ℕ → Header → Sealed → Piece
header_piece dk h s = record { key = dk; nonce = repeat 12 0; aad = header_bytes h; sealed = s }

abbrev pub frame_piece : List ℕ → List ℕ → Bool → ℕ → Sealed → Piece
frame_piece dk id last n s = record { key = dk; nonce = to_bytes 12 n; aad = frame_aad id last n (length s.ciphertext); sealed = s }

abbrev pub seal_frame : List ℕ → List ℕ → Bool → ℕ → List ℕ → Sealed
seal_frame dk id last n t = seal dk (to_bytes 12 n) (frame_aad id last n (length t)) t

abbrev pub frame_bytes : ℕ → Sealed → List ℕ
frame_bytes n s = to_bytes 4 n ++ (to_bytes 12 n ++ (s.ciphertext ++ s.tag))

abbrev pub final_bytes : ℕ → Sealed → List ℕ
final_bytes n s = to_bytes 4 end_marker ++ (to_bytes 4 n ++ (to_bytes 12 n ++ (to_bytes 4 (length s.ciphertext) ++ (s.ciphertext ++ s.tag))))

-- the header's tag is that of sealing no text, with the header as additional data
abbrev pub seal_header : List ℕ → Header → Sealed
seal_header dk h = seal dk (repeat 12 0) (header_bytes h) []
