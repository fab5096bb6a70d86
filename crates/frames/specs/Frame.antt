-- A frame as it is sealed and as it is opened. These are definitions: they assume nothing.
use Rattle.std.specs.Prelude.{◌≡◌, ℕ, ◌+◌, Bool, true, false, ◌&&◌, ◌==◌, nat_lt, List, [], ◌∷◌, ◌++◌, length, ◌≢◌}
use Rattle.octets.specs.Bits.{pick}
use Rattle.octets.specs.Bytes.{to_bytes}
use Rattle.gcm.specs.Gcm.{Sealed}
use Rattle.format.specs.Request.{end_marker}
use Rattle.format.specs.Piece.{frame_aad, seal_frame, frame_bytes, final_bytes}
use Rattle.format.specs.Reading.{ReadFrame}
use Rattle.frames.specs.Cipher.{unsealed}
use Rattle.frames.specs.declared.frame.FrameKind.{FrameKind}
use Rattle.frames.specs.declared.frame.FrameKind.TheVariants.{Regular, Final}

-- what is sealed, as it stands in a frame
abbrev pub both : Sealed → List ℕ
both s = s.ciphertext ++ s.tag

-- what stands before the ciphertext of a frame with so many bytes of text
abbrev pub frame_front : FrameKind → ℕ → ℕ → List ℕ
frame_front Regular n k = to_bytes 4 n ++ to_bytes 12 n
frame_front Final n k = to_bytes 4 end_marker ++ (to_bytes 4 n ++ (to_bytes 12 n ++ to_bytes 4 k))

-- whether so many bytes are those of a frame with so long a text
abbrev pub frame_fits : FrameKind → ℕ → ℕ → Bool
frame_fits Regular text room = room == text + 32
frame_fits Final text room = nat_lt text 4294967296 && room == text + 40

-- a text sealed into a frame of its own, by key, message id and number
unfoldable pub regular_frame : List ℕ → List ℕ → ℕ → List ℕ → List ℕ
regular_frame key id n text = frame_bytes n (seal_frame key id false n text)

unfoldable pub final_frame : List ℕ → List ℕ → ℕ → List ℕ → List ℕ
final_frame key id n text = final_bytes n (seal_frame key id true n text)

abbrev pub sealed_frame : FrameKind → List ℕ → List ℕ → ℕ → List ℕ → List ℕ
sealed_frame Regular key id n text = regular_frame key id n text
sealed_frame Final key id n text = final_frame key id n text

-- the text of a frame that was read: none or one
abbrev pub frame_text : List ℕ → List ℕ → ℕ → ReadFrame → List (List ℕ)
frame_text key id n f = unsealed key (to_bytes 12 n) (frame_aad id f.last n (length f.sealed.ciphertext)) f.sealed

-- opened or not: where the lent bytes are as many as the ciphertext's, what they hold after true is the frame's text, and false is none;
-- where they aren't, it is false; and after false they are as they were
pub record OpensFrame (key id : List ℕ) (n : ℕ) (f : ReadFrame) (old : List ℕ) (r : Bool) (out : List ℕ) : Type 0 where
  pub text : length old ≡ length f.sealed.ciphertext → pick r (out ∷ []) [] ≡ frame_text key id n f
  pub lacks : (length old ≢ length f.sealed.ciphertext) → r ≡ false
  pub holds : r ≡ false → out ≡ old
