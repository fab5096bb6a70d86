-- Messages opened. These are definitions: they assume nothing.
use Rattle.std.specs.Prelude.{ℕ, zero, suc, Bool, List, [], ◌∷◌, ◌++◌, length}
use Rattle.octets.specs.Bits.{pick}
use Rattle.octets.specs.Bytes.{bytes_eq, to_bytes}
use Rattle.hkdf.specs.MessageKeys.{sealing_key, commitment}
use Rattle.gcm.specs.Gcm.{unseal}
use Rattle.format.specs.Request.{Pair}
use Rattle.format.specs.Header.{Header}
use Rattle.format.specs.Piece.{Piece, frame_aad, header_piece, frame_piece, seal_header}
use Rattle.octets.specs.Cut.{and_then}
use Rattle.format.specs.Reading.{is_empty, ReadHeader, read_header, ReadFrame, read_frame}

-- opened, or why not and at which frame: 3 no header; 4 another key; 5 the header's tag; 6 not the next frame; 7 a frame's tag; 8 something after the final frame
pub data Opened : Type 0 where
  not_opened : ℕ → ℕ → Opened
  opened : List Pair → List ℕ → Opened

unfoldable pub with_text : ℕ → Header → List ℕ → ReadFrame → List (List ℕ) → (List ℕ → Opened) → Opened
with_text n h sofar f [] g = not_opened 7 n
with_text n h sofar f (t ∷ ts) g = pick f.last (pick (is_empty f.rest) (opened h.context (sofar ++ t)) (not_opened 8 n)) (g t)

unfoldable pub with_frame : ℕ → List ReadFrame → (ReadFrame → Opened) → Opened
with_frame n [] g = not_opened 6 n
with_frame n (f ∷ fs) g = g f

abbrev pub unseal_frame : List ℕ → Header → ℕ → ReadFrame → List (List ℕ)
unseal_frame dk h n f = unseal dk (to_bytes 12 n) (frame_aad h.id f.last n (length f.sealed.ciphertext)) f.sealed

unfoldable pub open_frames : ℕ → List ℕ → Header → ℕ → List ℕ → List ℕ → Opened
open_frames zero dk h n sofar bs = not_opened 6 n
open_frames (suc k) dk h n sofar bs =
    with_frame n (read_frame h.frame_length n bs) (λ f. with_text n h sofar f (unseal_frame dk h n f) (λ t. open_frames k dk h (suc n) (sofar ++ t) f.rest))

unfoldable pub with_header : List ReadHeader → (ReadHeader → Opened) → Opened
with_header [] f = not_opened 3 0
with_header (x ∷ xs) f = f x

abbrev pub header_tag_right : List ℕ → ReadHeader → Bool
header_tag_right dk x = bytes_eq (seal_header dk x.header).tag x.tag

abbrev pub open_message : List ℕ → List ℕ → Opened
open_message k bs =
    with_header (read_header bs) (λ x.
    let dk : List ℕ = sealing_key k x.header.id in
    pick (bytes_eq (commitment k x.header.id) x.header.commitment)
    (pick (header_tag_right dk x) (open_frames (suc (length x.rest)) dk x.header 1 [] x.rest) (not_opened 5 0))
    (not_opened 4 0))

-- all pieces that stand in a message, as far as it can be read, under the key that it is opened with
unfoldable pub frames_in : ℕ → List ℕ → Header → ℕ → List ℕ → List Piece
frames_in zero dk h n bs = []
frames_in (suc k) dk h n bs =
    and_then (read_frame h.frame_length n bs) (λ f. frame_piece dk h.id f.last n f.sealed ∷ pick f.last [] (frames_in k dk h (suc n) f.rest))

abbrev pub pieces_in : List ℕ → List ℕ → List Piece
pieces_in k bs =
    and_then (read_header bs) (λ x.
    let dk : List ℕ = sealing_key k x.header.id in
    header_piece dk x.header (record { ciphertext = []; tag = x.tag }) ∷ frames_in (suc (length x.rest)) dk x.header 1 x.rest)
