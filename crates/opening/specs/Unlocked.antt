-- A header checked with a key, and its frames opened. These are definitions: they assume nothing.
use Rattle.std.specs.Prelude.{◌≡◌, ℕ, suc, List, [], length, take, Ok, Err, Result}
use Rattle.gcm.specs.Key.{key_of}
use Rattle.format.specs.Header.{Header}
use Rattle.format.specs.Opening as Opening
use Rattle.format.specs.Opening.{opened, open_frames, open_message, with_header}
use Rattle.octets.specs.Bits.{pick}
use Rattle.octets.specs.Bytes.{bytes_eq}
use Rattle.hkdf.specs.MessageKeys.{sealing_key, commitment}
use Rattle.format.specs.Header.{header_bytes}
use Rattle.format.specs.Opening.{not_opened}
use Rattle.frames.specs.Cipher.{header_tag}
use Rattle.opening.specs.Refusal.{refused}
use Rattle.opening.specs.declared.refusal.OpenRefusal.{OpenRefusal}
use Rattle.opening.specs.declared.unlock.Unlocked.{Unlocked}

-- what the frames from number n on come to, after so much text
abbrev pub open_rest : List ℕ → Header → ℕ → List ℕ → List ℕ → Opening.Opened
open_rest dk h n sofar bs = open_frames (suc (length bs)) dk h n sofar bs

-- what a message comes to whose header, tag and rest were read
abbrev pub open_read : List ℕ → Header → List ℕ → List ℕ → Opening.Opened
open_read k h tag rest =
    pick (bytes_eq (commitment k h.id) h.commitment)
    (pick (bytes_eq (header_tag (sealing_key k h.id) (header_bytes h)) tag) (open_rest (sealing_key k h.id) h 1 [] rest) (not_opened 5 0))
    (not_opened 4 0)

-- the header that it was unlocked with, as far as frames need it
pub record Matches (u : Unlocked) (h : Header) : Type 0 where
  pub id : h.id ≡ u.cipher.id
  pub frame_length : h.frame_length ≡ u.frame_length

-- unlocked: whatever comes after, the message comes to what its frames do under this key; refused: it comes to the refusal
abbrev pub Unlocks : List ℕ → Header → List ℕ → Result Unlocked OpenRefusal → Type 0
Unlocks k h tag (Ok u) = Matches u h × ((rest : List ℕ) → open_rest (key_of u.cipher.key) h 1 [] rest ≡ open_read k h tag rest)
Unlocks k h tag (Err e) = (rest : List ℕ) → refused e ≡ open_read k h tag rest

-- the texts of all frames, or a refusal
abbrev pub frames_answer : Header → Result ℕ OpenRefusal → List ℕ → Opening.Opened
frames_answer h (Ok len) out = opened h.context (take len out)
frames_answer h (Err e) out = refused e

abbrev pub FramesOpen : Unlocked → List ℕ → Result ℕ OpenRefusal → List ℕ → Type 0
FramesOpen u bs r out = (h : Header) → Matches u h → frames_answer h r out ≡ open_rest (key_of u.cipher.key) h 1 [] bs

-- how many of the lent bytes are text
abbrev pub frames_len : Result ℕ OpenRefusal → ℕ
frames_len (Ok len) = len
frames_len (Err e) = 0
