-- Eight statements about messages. Each is a type whose proof is owed.
use Rattle.std.specs.Prelude.{◌≡◌, ℕ, ◌+◌, ◌-◌, ◌*◌, ◌/◌, ◌<◌, Bool, true, false, ◌||◌, List, [], ◌∷◌, ◌++◌, length}
use Rattle.octets.specs.Bits.{pick}
use Rattle.octets.specs.Bytes.{bytes_eq, take, all_bytes}
use Rattle.hkdf.specs.MessageKeys.{commitment}
use Rattle.format.specs.Request.{Pair, Request, data_keys_bytes, seal_refusal, well_formed}
use Rattle.format.specs.Header.{context_bytes, Header, header_bytes, header_of}
use Rattle.format.specs.Piece.{Piece, frame_bytes, final_bytes}
use Rattle.format.specs.Message.{message, pieces}
use Rattle.format.specs.Reading.{ReadHeader, read_header, ReadFrame, read_frame}
use Rattle.format.specs.Opening.{not_opened, opened, open_message}

-- 1. what was sealed opens, with its key, to what it was
unfoldable pub SealedOpens : Type 0
SealedOpens = (r : Request) → well_formed r ≡ true → seal_refusal r ≡ 0 → open_message r.key (message r) ≡ opened r.context r.text

-- 2. whoever reads the header sees what the request said, with no key
unfoldable pub header_seen : List ReadHeader → List Header
header_seen [] = []
header_seen (x ∷ xs) = x.header ∷ []

unfoldable pub HeaderIsSeen : Type 0
HeaderIsSeen = (r : Request) → well_formed r ≡ true → seal_refusal r ≡ 0 → header_seen (read_header (message r)) ≡ header_of r ∷ []

-- 3. a header is read in one way only: what is read is what is written
abbrev pub header_and_tag : ReadHeader → List ℕ
header_and_tag x = header_bytes x.header ++ (x.tag ++ x.rest)

unfoldable pub ReadIsWritten : Type 0
ReadIsWritten = (bs : List ℕ) (x : ReadHeader) → all_bytes bs ≡ true → read_header bs ≡ x ∷ [] → header_and_tag x ≡ bs

-- and so is a frame
unfoldable pub FrameIsWritten : Type 0
FrameIsWritten = (size n : ℕ) (bs : List ℕ) (f : ReadFrame) → all_bytes bs ≡ true → read_frame size n bs ≡ f ∷ [] → pick f.last (final_bytes n f.sealed) (frame_bytes n f.sealed) ++ f.rest ≡ bs

-- 4. how long a message is
unfoldable pub LengthIsKnown : Type 0
LengthIsKnown =
    (r : Request) → well_formed r ≡ true → seal_refusal r ≡ 0 →
    length (message r) ≡ 90 + (length (context_bytes r.context) + (length (data_keys_bytes r.encrypted_data_keys) + (length r.text + (32 * ((length r.text - 1) / r.frame_length) + 40))))

-- 5. no beginning of a message that opens, and nothing that goes on after it, opens with the same key
unfoldable pub NothingLessOrMore : Type 0
NothingLessOrMore =
    (k bs cs text other : List ℕ) (context ctx : List Pair) → open_message k bs ≡ opened context text → 0 < length cs → (open_message k (bs ++ cs) ≡ opened ctx other) → ⊥

-- the same with the refusal, and from the longer message's side
unfoldable pub GoingOnIsRefused : Type 0
GoingOnIsRefused = (k bs cs text : List ℕ) (context : List Pair) → open_message k bs ≡ opened context text → 0 < length cs → (n : ℕ) × (open_message k (bs ++ cs) ≡ not_opened 8 n)

unfoldable pub NoBeginningOpens : Type 0
NoBeginningOpens =
    (k bs text other : List ℕ) (context ctx : List Pair) (n : ℕ) → open_message k bs ≡ opened context text → n < length bs → (open_message k (take n bs) ≡ opened ctx other) → ⊥

-- 6. opening a sealed piece gives the text: stated and proved of one piece, in crate gcm (OpenUndoesSeal)

-- 7. no two pieces of a message are sealed with the same nonce
unfoldable pub nonce_among : Piece → List Piece → Bool
nonce_among p [] = false
nonce_among p (q ∷ qs) = bytes_eq p.nonce q.nonce || nonce_among p qs

unfoldable pub nonce_twice : List Piece → Bool
nonce_twice [] = false
nonce_twice (p ∷ ps) = nonce_among p ps || nonce_twice ps

unfoldable pub NoncesDiffer : Type 0
NoncesDiffer = (r : Request) → well_formed r ≡ true → seal_refusal r ≡ 0 → nonce_twice (pieces r) ≡ false

-- 8. with a key of another commitment the refusal is 4
unfoldable pub OtherKey : Type 0
OtherKey =
    (r : Request) (k : List ℕ) → well_formed r ≡ true → seal_refusal r ≡ 0 → bytes_eq (commitment k r.id) (commitment r.key r.id) ≡ false → open_message k (message r) ≡ not_opened 4 0
