-- What the statements and the main theorem come to, in a reader's words. Each statement is a type whose proof is owed.
use Rattle.std.specs.Prelude.{◌≡◌, ℕ, zero, suc, true, false, ◌⊎◌, List, [], ◌∷◌, ◌++◌, length, ◌≢◌, nat_lt}
use mathlib.Core.List.{flatten}
use Rattle.octets.specs.Bits.{pick}
use Rattle.octets.specs.Bytes.{take, drop, repeat, to_bytes, all_bytes}
use Rattle.hkdf.specs.MessageKeys.{sealing_key, commitment}
use Rattle.gcm.specs.Gcm.{Sealed}
use Rattle.format.specs.Request.{Pair, Request, seal_refusal, well_formed}
use Rattle.format.specs.Header.{header_bytes, header_of}
use Rattle.format.specs.Piece.{seal_frame, frame_bytes, final_bytes, seal_header}
use Rattle.format.specs.Message.{message}
use Rattle.format.specs.Reading.{ReadHeader, read_header}
use Rattle.format.specs.Opening.{not_opened, opened, open_message}
use Rattle.format.specs.Sealed.{Among, all_good, Forged, IdReused, KeysCollide, Accounted}
use Rattle.format.specs.Statements.{header_seen}
use Rattle.format.specs.Promise.{Program, Correct}

-- the frames of a message one by one, and a message made of a request's header, its tag, and frames
unfoldable pub frame_list : ℕ → List ℕ → List ℕ → ℕ → ℕ → List ℕ → List (List ℕ)
frame_list zero dk id size n t = []
frame_list (suc k) dk id size n t =
    pick (nat_lt size (length t)) (frame_bytes n (seal_frame dk id false n (take size t)) ∷ frame_list k dk id size (suc n) (drop size t)) (final_bytes n (seal_frame dk id true n t) ∷ [])

abbrev pub frames_of : Request → List (List ℕ)
frames_of r = frame_list (suc (length r.text)) (sealing_key r.key r.id) r.id r.frame_length 1 r.text

abbrev pub front_of : Request → List ℕ
front_of r = header_bytes (header_of r) ++ (seal_header (sealing_key r.key r.id) (header_of r)).tag

abbrev pub with_frames : Request → List (List ℕ) → List ℕ
with_frames r fs = front_of r ++ flatten fs

unfoldable pub MessageInFrames : Type 0
MessageInFrames = (r : Request) → with_frames r (frames_of r) ≡ message r

-- what is shown where something else than its message opens behind a request's header
abbrev pub ForgedOrReused : List ℕ → List ℕ → List Request → Type 0
ForgedOrReused k bs rs = Forged k bs rs ⊎ IdReused rs

-- behind the header of a request, nothing but its own message opens with its key, whatever the header's tag and the frames are changed to
unfoldable pub NothingElseBehindAHeader : Type 0
NothingElseBehindAHeader =
    (rs : List Request) (r : Request) (rest bs text : List ℕ) (context : List Pair) → all_good rs ≡ true → Among r rs → header_bytes (header_of r) ++ rest ≡ bs →
    all_bytes bs ≡ true → open_message r.key bs ≡ opened context text → (message r ≡ bs) ⊎ ForgedOrReused r.key bs rs

-- a frame of the message in the place of an earlier one: whatever follows, it doesn't open
unfoldable pub OutOfPlaceNeverOpens : Type 0
OutOfPlaceNeverOpens =
    (r : Request) (before between after : List (List ℕ)) (f g rest text : List ℕ) (context : List Pair) → well_formed r ≡ true → seal_refusal r ≡ 0 →
    frames_of r ≡ before ++ (f ∷ (between ++ (g ∷ after))) → (open_message r.key (front_of r ++ (flatten before ++ (g ++ rest))) ≡ opened context text) → ⊥

-- so a message cut after any frame and ended by its own final frame doesn't open
unfoldable pub CutShortNeverOpens : Type 0
CutShortNeverOpens =
    (r : Request) (before lost : List (List ℕ)) (f final text : List ℕ) (context : List Pair) → well_formed r ≡ true → seal_refusal r ≡ 0 →
    frames_of r ≡ before ++ (f ∷ (lost ++ (final ∷ []))) → (open_message r.key (with_frames r (before ++ (final ∷ []))) ≡ opened context text) → ⊥

-- nor does one whose final frame was renumbered, or is any other, unless a piece was forged or an id used twice
unfoldable pub CutShortAndEnded : Type 0
CutShortAndEnded =
    (rs : List Request) (r : Request) (before lost : List (List ℕ)) (f g : List ℕ) (n : ℕ) (s : Sealed) (bs text : List ℕ) (context : List Pair) → all_good rs ≡ true → Among r rs →
    frames_of r ≡ before ++ (f ∷ (g ∷ lost)) → with_frames r (before ++ (final_bytes n s ∷ [])) ≡ bs → all_bytes bs ≡ true →
    open_message r.key bs ≡ opened context text → ForgedOrReused r.key bs rs

-- two frames of a message exchanged: it doesn't open
unfoldable pub ExchangedNeverOpens : Type 0
ExchangedNeverOpens =
    (r : Request) (before between after : List (List ℕ)) (f g text : List ℕ) (context : List Pair) → well_formed r ≡ true → seal_refusal r ≡ 0 →
    frames_of r ≡ before ++ (f ∷ (between ++ (g ∷ after))) → (open_message r.key (with_frames r (before ++ (g ∷ (between ++ (f ∷ after))))) ≡ opened context text) → ⊥

-- nor if they are renumbered, so that only what they hold is exchanged, unless it is the same, or a piece was forged or an id used twice
abbrev pub numbered_frame : ℕ → List ℕ → List ℕ
numbered_frame n content = to_bytes 4 n ++ (to_bytes 12 n ++ content)

unfoldable pub ExchangedAndRenumbered : Type 0
ExchangedAndRenumbered =
    (rs : List Request) (r : Request) (before between after : List (List ℕ)) (m n : ℕ) (x y z bs text : List ℕ) (context : List Pair) → all_good rs ≡ true → Among r rs →
    frames_of r ≡ before ++ (numbered_frame m x ∷ (between ++ (numbered_frame n y ∷ (z ∷ after)))) →
    with_frames r (before ++ (numbered_frame m y ∷ (between ++ (numbered_frame n x ∷ (z ∷ after))))) ≡ bs → all_bytes bs ≡ true →
    open_message r.key bs ≡ opened context text → (x ≡ y) ⊎ ForgedOrReused r.key bs rs

-- the frames of another message behind this header and its tag: it doesn't open, unless they are this one's byte for byte, or a piece was forged or an id used twice
unfoldable pub FramesOfAnother : Type 0
FramesOfAnother =
    (rs : List Request) (r q : Request) (bs text : List ℕ) (context : List Pair) → all_good rs ≡ true → Among r rs → with_frames r (frames_of q) ≡ bs → all_bytes bs ≡ true →
    open_message r.key bs ≡ opened context text → (flatten (frames_of q) ≡ flatten (frames_of r)) ⊎ ForgedOrReused r.key bs rs

-- one message doesn't open to two contexts or texts, unless two different keys have the same commitment for its id
unfoldable pub TwoTextsTwoKeys : Type 0
TwoTextsTwoKeys =
    (k j bs text other : List ℕ) (context ctx : List Pair) → open_message k bs ≡ opened context text → open_message j bs ≡ opened ctx other → ((opened context text ≡ opened ctx other) → ⊥) →
    ((k ≡ j) → ⊥) × ((x : ReadHeader) × ((more : List ReadHeader) × ((read_header bs ≡ x ∷ more) × (commitment k x.header.id ≡ commitment j x.header.id))))

-- what can be seen without the key: header and header tag don't depend on the text, and of the text only its length shows in a message's length
abbrev pub with_other_text : Request → List ℕ → Request
with_other_text r t = record { key = r.key; id = r.id; context = r.context; encrypted_data_keys = r.encrypted_data_keys; frame_length = r.frame_length; text = t }

unfoldable pub FrontHidesText : Type 0
FrontHidesText = (r : Request) (t : List ℕ) → front_of (with_other_text r t) ≡ front_of r

unfoldable pub SameLengthSameSize : Type 0
SameLengthSameSize =
    (r : Request) (t : List ℕ) → well_formed r ≡ true → seal_refusal r ≡ 0 → all_bytes t ≡ true → length t ≡ length r.text →
    (length (message (with_other_text r t)) ≡ length (message r)) × (header_seen (read_header (message (with_other_text r t))) ≡ header_seen (read_header (message r)))

-- what a correct program opens is accounted for
unfoldable pub CorrectProgramAccounts : Type 0
CorrectProgramAccounts =
    (f : Program) → Correct f → (rs : List Request) (k bs text : List ℕ) (context : List Pair) → all_good rs ≡ true → all_bytes k ≡ true → length k ≡ 32 → all_bytes bs ≡ true →
    f.opens k bs ≡ opened context text → Accounted rs k bs context text

-- and of bytes that are no message of the sealed ones it gives out nothing, unless one of the three is shown
unfoldable pub NothingGivenOut : Type 0
NothingGivenOut =
    (f : Program) → Correct f → (rs : List Request) (k bs : List ℕ) (n : ℕ) → all_good rs ≡ true → all_bytes k ≡ true → length k ≡ 32 → all_bytes bs ≡ true →
    ((r : Request) → Among r rs → r.key ≡ k → message r ≢ bs) →
    ((a : ℕ) × ((b : ℕ) × ((f.opens k bs ≡ not_opened a b) × (f.leaves k bs n ≡ repeat n 0)))) ⊎ (Forged k bs rs ⊎ (IdReused rs ⊎ KeysCollide k rs))
