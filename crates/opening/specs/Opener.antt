-- A message opened frame by frame: what each call says of what the whole message comes to, whatever follows the bytes that it was
-- lent. These are definitions: they assume nothing.
use Rattle.std.specs.Prelude.{◌≡◌, ℕ, ◌+◌, ◌<◌, ◌≤◌, Bool, true, false, ◌⊎◌, List, [], ◌∷◌, ◌++◌, length, take, drop, Ok, Err, Result, ◌≢◌}
use Rattle.octets.specs.Bits.{pick}
use Rattle.octets.specs.Bytes.{repeat}
use Rattle.gcm.specs.Key.{key_of}
use Rattle.format.specs.Header.{Header}
use Rattle.format.specs.Reading.{ReadHeader, is_empty, read_header}
use Rattle.format.specs.Opening as Opening
use Rattle.format.specs.Opening.{not_opened, opened}
use Rattle.opening.specs.Refusal.{refused}
use Rattle.opening.specs.Unlocked.{Matches, open_rest}
use Rattle.opening.specs.Answer.{opening}
use Rattle.opening.specs.declared.refusal.OpenRefusal.{OpenRefusal}
use Rattle.opening.specs.declared.refusal.OpenRefusal.TheVariants.{OutTooShort}
use Rattle.opening.specs.declared.state.Opener.{Opener}
use Rattle.opening.specs.declared.state.Step.{Step}
use Rattle.opening.specs.declared.state.Step.TheVariants.{NeedMore, Regular, Final, End}

-- what a message with this header comes to, of which so much text was given out and these bytes are left
abbrev pub comes_to : Opener → Header → List ℕ → List ℕ → Opening.Opened
comes_to s h sofar left = pick s.done (pick (is_empty left) (opened h.context sofar) (not_opened 8 s.number)) (open_rest (key_of s.unlocked.cipher.key) h s.number sofar left)

-- begun: a header was read from the front of the bytes, and whatever follows them the message comes to what its frames come to
pub record Begun (k bs : List ℕ) (s : Opener) : Type 0 where
  pub read : ReadHeader
  pub found : (read ∷ []) ≡ read_header bs
  pub matches : Matches s.unlocked read.header
  pub rest : drop s.header_len bs ≡ read.rest
  pub comes : (more : List ℕ) → comes_to s read.header [] (drop s.header_len bs ++ more) ≡ opening k (bs ++ more)

-- refused: the message comes to the refusal, if nothing follows the bytes or a header stands there whole
abbrev pub Begins : List ℕ → List ℕ → Result Opener OpenRefusal → Type 0
Begins k bs (Ok s) = Begun k bs s
Begins k bs (Err e) = (more : List ℕ) → (more ≡ []) ⊎ (0 < length (read_header bs)) → refused e ≡ opening k (bs ++ more)

-- how much text a step gave out, and how many bytes it took
abbrev pub step_len : Step → ℕ
step_len NeedMore = 0
step_len (Regular f) = f.len
step_len (Final f) = f.len
step_len End = 0

abbrev pub step_taken : Step → ℕ
step_taken NeedMore = 0
step_taken (Regular f) = f.taken
step_taken (Final f) = f.taken
step_taken End = 0

-- when each step is answered: more bytes are asked for only where more are to come, and those that were lent are fewer than any frame may have
abbrev pub Apt : Opener → List ℕ → Bool → Step → Opener → Type 0
Apt s bs at_end NeedMore s' = (s' ≡ s) × (s.done ≡ false) × (at_end ≡ false) × (length bs < s.unlocked.frame_length + 40)
Apt s bs at_end (Regular f) s' = (s.done ≡ false) × (s'.done ≡ false)
Apt s bs at_end (Final f) s' = (s.done ≡ false) × (s'.done ≡ true)
Apt s bs at_end End s' = (s' ≡ s) × (s.done ≡ true) × (bs ≡ [])

-- a step: the message comes to the same after it, with its text given out and its bytes taken; the lent bytes behind the text are as they were
pub record Stepped (s : Opener) (bs : List ℕ) (at_end : Bool) (old : List ℕ) (st : Step) (s' : Opener) (out : List ℕ) : Type 0 where
  pub apt : Apt s bs at_end st s'
  pub unlocked : s'.unlocked ≡ s.unlocked
  pub text_fits : step_len st ≤ length old
  pub bytes_fit : step_taken st ≤ length bs
  pub behind : drop (step_len st) out ≡ drop (step_len st) old
  pub comes : (h : Header) (sofar more : List ℕ) → Matches s.unlocked h → comes_to s' h (sofar ++ take (step_len st) out) (drop (step_taken st) bs ++ more) ≡ comes_to s h sofar (bs ++ more)

-- a refusal: fewer lent bytes than the text needs, or what the message comes to; the opener is as it was
pub record Refused (s : Opener) (bs : List ℕ) (at_end : Bool) (old : List ℕ) (e : OpenRefusal) (s' : Opener) : Type 0 where
  pub same : s' ≡ s
  pub short : e ≡ OutTooShort → length old < length bs
  pub comes : (e ≢ OutTooShort) → (h : Header) (sofar more : List ℕ) → Matches s.unlocked h → (at_end ≡ true → more ≡ []) → refused e ≡ comes_to s h sofar (bs ++ more)

abbrev pub Steps : Opener → List ℕ → Bool → List ℕ → Result Step OpenRefusal → Opener → List ℕ → Type 0
Steps s bs at_end old (Ok st) s' out = Stepped s bs at_end old st s' out
Steps s bs at_end old (Err e) s' out = Refused s bs at_end old e s'

-- the same, with zeros after a refusal
abbrev pub Nexts : Opener → List ℕ → Bool → List ℕ → Result Step OpenRefusal → Opener → List ℕ → Type 0
Nexts s bs at_end old (Ok st) s' out = Stepped s bs at_end old st s' out
Nexts s bs at_end old (Err e) s' out = Refused s bs at_end old e s' × (out ≡ repeat (length old) 0)

-- the end of a message, after which nothing follows
abbrev pub Ends : Opener → Result (Unit {0}) OpenRefusal → Type 0
Ends s (Ok u) = (h : Header) (sofar : List ℕ) → opened h.context sofar ≡ comes_to s h sofar []
Ends s (Err e) = (h : Header) (sofar : List ℕ) → Matches s.unlocked h → refused e ≡ comes_to s h sofar []
