-- A message sealed in calls: what each answers and leaves, and what the calls come to. These are definitions: they assume nothing.
use Rattle.std.specs.Prelude.{◌≡◌, ℕ, ◌+◌, ◌-◌, ◌*◌, Bool, true, false, cond, ◌&&◌, ◌||◌, List, [], ◌∷◌, ◌++◌, length, Ok, Err, Result, ◌==◌, nat_le, nat_lt}
use Rattle.octets.specs.Splice.{Written}
use Rattle.hkdf.specs.MessageKeys.{sealing_key}
use Rattle.gcm.specs.Key.{key_of}
use Rattle.format.specs.Request.{seal_refusal}
use Rattle.frames.specs.Frame.{frame_fits, regular_frame, final_frame}
use Rattle.frames.specs.declared.frame.FrameKind.{FrameKind}
use Rattle.frames.specs.declared.frame.FrameKind.TheVariants.{Regular, Final}
use Rattle.header.specs.Models.{request_with}
use Rattle.header.specs.Checked.{header_refusal, text_fits}
use Rattle.header.specs.declared.refusal.SealRefusal.{SealRefusal}
use Rattle.header.specs.declared.request.HeaderRequest.{HeaderRequest}
use Rattle.sealing.specs.Whole.{sealed_message, start}
use Rattle.sealing.specs.declared.state.Sealer.{Sealer}
use Rattle.sealing.specs.declared.state.FrameRefusal.{FrameRefusal}
use Rattle.sealing.specs.declared.state.FrameRefusal.TheVariants.{Finished, TextLength, Text, OutLength}

-- a sealer as it begins
pub record Begun (key : List ℕ) (h : HeaderRequest) (s : Sealer) : Type 0 where
  pub key_long : length key ≡ 32
  pub passed : header_refusal (request_with [] h []) ≡ 0
  pub cipher : key_of s.cipher.key ≡ sealing_key key h.id.now
  pub id : s.cipher.id ≡ h.id.now
  pub frame_length : s.frame_length ≡ h.frame_length
  pub number : s.number ≡ 1
  pub unfinished : s.finished ≡ false

-- and what was written: the start of the message from the front on, or nothing
abbrev pub Begins : List ℕ → HeaderRequest → List ℕ → Result (Sealer × ℕ) SealRefusal → List ℕ → Type 0
Begins key h old (Ok b) out = Begun key h b.0 × Written old 0 (start (request_with key h [])) b.1 out
Begins key h old (Err e) out = out ≡ old

-- how long the text of the regular frames so far is
abbrev pub text_before : Sealer → ℕ
text_before s = (s.number - 1) * s.frame_length

-- a sealer that is as it was
pub record Unchanged (s s' : Sealer) : Type 0 where
  pub cipher : s'.cipher ≡ s.cipher
  pub frame_length : s'.frame_length ≡ s.frame_length
  pub number : s'.number ≡ s.number
  pub finished : s'.finished ≡ s.finished

-- what a call for a regular frame answers, by how long its text and the lent bytes are
abbrev pub regular_answer : Sealer → ℕ → ℕ → Result (Unit {0}) FrameRefusal
regular_answer s text room =
    cond s.finished (Err Finished)
    (cond (text == s.frame_length)
    (cond (nat_lt s.number 4294967295 && text_fits (text_before s + text) s.frame_length) (cond (room == text + 32) (Ok tt) (Err OutLength)) (Err Text)) (Err TextLength))

pub record RegularSealed (s : Sealer) (text : List ℕ) (s' : Sealer) (out : List ℕ) : Type 0 where
  pub frame : out ≡ regular_frame (key_of s.cipher.key) s.cipher.id s.number text
  pub cipher : key_of s'.cipher.key ≡ key_of s.cipher.key
  pub id : s'.cipher.id ≡ s.cipher.id
  pub frame_length : s'.frame_length ≡ s.frame_length
  pub number : s'.number ≡ s.number + 1
  pub unfinished : s'.finished ≡ false

abbrev pub SealsRegular : Sealer → List ℕ → List ℕ → Result (Unit {0}) FrameRefusal → Sealer → List ℕ → Type 0
SealsRegular s text old (Ok x) s' out = RegularSealed s text s' out
SealsRegular s text old (Err e) s' out = Unchanged s s' × (out ≡ old)

-- a final frame has at most the frame length of text, and some, unless it is the only frame
abbrev pub may_end : Sealer → ℕ → Bool
may_end s text = nat_le text s.frame_length && (nat_lt 0 text || s.number == 1)

-- whether the next frame may be of a kind, and may have so much text
abbrev pub comes : FrameKind → Sealer → Bool
comes Regular s = nat_lt s.number 4294967295
comes Final s = true

abbrev pub takes : FrameKind → Sealer → ℕ → Bool
takes Regular s text = text == s.frame_length
takes Final s text = may_end s text

-- what a call for a frame of a kind answers
abbrev pub frame_answer : FrameKind → Sealer → ℕ → ℕ → Result (Unit {0}) FrameRefusal
frame_answer kind s text room =
    cond s.finished (Err Finished)
    (cond (takes kind s text)
    (cond (comes kind s && text_fits (text_before s + text) s.frame_length) (cond (frame_fits kind text room) (Ok tt) (Err OutLength)) (Err Text)) (Err TextLength))

-- what a call for the final frame answers
abbrev pub final_answer : Sealer → ℕ → ℕ → Result (Unit {0}) FrameRefusal
final_answer s text room =
    cond s.finished (Err Finished)
    (cond (may_end s text)
    (cond (text_fits (text_before s + text) s.frame_length) (cond (room == text + 40) (Ok tt) (Err OutLength)) (Err Text)) (Err TextLength))

pub record FinalSealed (s : Sealer) (text : List ℕ) (s' : Sealer) (out : List ℕ) : Type 0 where
  pub frame : out ≡ final_frame (key_of s.cipher.key) s.cipher.id s.number text
  pub finished : s'.finished ≡ true

abbrev pub SealsFinal : Sealer → List ℕ → List ℕ → Result (Unit {0}) FrameRefusal → Sealer → List ℕ → Type 0
SealsFinal s text old (Ok x) s' out = FinalSealed s text s' out
SealsFinal s text old (Err e) s' out = Unchanged s s' × (out ≡ old)

-- calls for regular frames that went well, one after another: the text of each, how many bytes were lent, what they hold, and the sealer after
pub record Call : Type 0 where
  pub text : List ℕ
  pub room : ℕ
  pub written : List ℕ
  pub after : Sealer

unfoldable pub Calls : Sealer → List Call → Type 0
Calls s [] = Unit {0}
Calls s (c ∷ cs) = (regular_answer s (length c.text) c.room ≡ Ok tt) × RegularSealed s c.text c.after c.written × Calls c.after cs

unfoldable pub sealer_after : Sealer → List Call → Sealer
sealer_after s [] = s
sealer_after s (c ∷ cs) = sealer_after c.after cs

unfoldable pub texts : List Call → List ℕ
texts [] = []
texts (c ∷ cs) = c.text ++ texts cs

unfoldable pub frames_written : List Call → List ℕ
frames_written [] = []
frames_written (c ∷ cs) = c.written ++ frames_written cs

-- a sealer that began, any number of calls for regular frames, and one for the final frame: the request with their texts joined isn't refused, and what they wrote, joined, is its message
unfoldable pub CallsMakeTheMessage : Type 0
CallsMakeTheMessage =
    (key : List ℕ) (h : HeaderRequest) (s end : Sealer) (calls : List Call) (text out : List ℕ) (room : ℕ) → Begun key h s → Calls s calls → final_answer (sealer_after s calls) (length text) room ≡ Ok tt
    → FinalSealed (sealer_after s calls) text end out
    → (seal_refusal (request_with key h (texts calls ++ text)) ≡ 0) × (start (request_with key h []) ++ (frames_written calls ++ out) ≡ sealed_message (request_with key h (texts calls ++ text)))
