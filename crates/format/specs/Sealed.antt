-- The main promise, second half: what opens was sealed, as it is, or one of three things can be shown:
-- a piece in this very message that has its right tag and that nobody sealed, an id used twice, or two keys that come to the same.
use Rattle.std.specs.Prelude.{◌≡◌, ℕ, Bool, true, false, ◌&&◌, ◌||◌, ◌⊎◌, List, [], ◌∷◌, length, ◌==◌}
use Rattle.octets.specs.Bytes.{bytes_eq, all_bytes}
use Rattle.aes256.specs.Aes.{round_keys}
use Rattle.gcm.specs.Gcm.{tag_of}
use Rattle.hkdf.specs.MessageKeys.{sealing_key, commitment}
use Rattle.format.specs.Request.{Pair, Request, seal_refusal, well_formed}
use Rattle.format.specs.Piece.{Piece}
use Rattle.format.specs.Message.{message, pieces}
use Rattle.format.specs.Opening.{opened, open_message, pieces_in}

unfoldable pub Among : Request → List Request → Type 0
Among r [] = ⊥
Among r (x ∷ xs) = (r ≡ x) ⊎ Among r xs

unfoldable pub all_good : List Request → Bool
all_good [] = true
all_good (r ∷ rs) = (well_formed r && seal_refusal r == 0) && all_good rs

abbrev pub same_piece : Piece → Piece → Bool
same_piece p q =
    (bytes_eq p.key q.key && (bytes_eq p.nonce q.nonce && bytes_eq p.aad q.aad)) && (bytes_eq p.sealed.ciphertext q.sealed.ciphertext && bytes_eq p.sealed.tag q.sealed.tag)

unfoldable pub has_piece : Piece → List Piece → Bool
has_piece p [] = false
has_piece p (q ∷ qs) = same_piece p q || has_piece p qs

unfoldable pub was_sealed : Piece → List Request → Bool
was_sealed p [] = false
was_sealed p (r ∷ rs) = has_piece p (pieces r) || was_sealed p rs

-- a piece whose tag is the one that its key, nonce, additional data and ciphertext give
abbrev pub TagRight : Piece → Type 0
TagRight p = tag_of (round_keys p.key) p.nonce p.aad p.sealed.ciphertext ≡ p.sealed.tag

-- a piece that stands in the message with its right tag, and that no request sealed
abbrev pub Forged : List ℕ → List ℕ → List Request → Type 0
Forged k bs rs = (p : Piece) × ((has_piece p (pieces_in k bs) ≡ true) × TagRight p × (was_sealed p rs ≡ false))

-- two different requests with one id, and the same sealing key
abbrev pub IdReused : List Request → Type 0
IdReused rs =
    (r : Request) × ((q : Request) × (Among r rs × Among q rs × ((r ≡ q) → ⊥) × (r.id ≡ q.id) × (sealing_key r.key r.id ≡ sealing_key q.key q.id)))

-- another key than the one it was sealed with, that comes to the same keys for this id
abbrev pub KeysCollide : List ℕ → List Request → Type 0
KeysCollide k rs =
    (r : Request) × (Among r rs × ((r.key ≡ k) → ⊥) × (sealing_key r.key r.id ≡ sealing_key k r.id) × (commitment r.key r.id ≡ commitment k r.id))

-- a request of the list has this key, context and text, and its message is these bytes
abbrev pub SealedHere : List Request → List ℕ → List ℕ → List Pair → List ℕ → Type 0
SealedHere rs k bs context text = (r : Request) × (Among r rs × (r.key ≡ k) × (r.context ≡ context) × (r.text ≡ text) × (message r ≡ bs))

-- what is to be said of a message that opened: it was sealed, or one of three things is shown
pub data Accounted (rs : List Request) (k bs : List ℕ) (context : List Pair) (text : List ℕ) : Type 0 where
  sealed_here : SealedHere rs k bs context text → Accounted rs k bs context text
  forged : Forged k bs rs → Accounted rs k bs context text
  id_reused : IdReused rs → Accounted rs k bs context text
  keys_collide : KeysCollide k rs → Accounted rs k bs context text

-- the main theorem: whatever was sealed, and whatever opens
unfoldable pub WhatOpensWasSealed : Type 0
WhatOpensWasSealed =
    (rs : List Request) (k bs text : List ℕ) (context : List Pair) → all_good rs ≡ true → all_bytes bs ≡ true → open_message k bs ≡ opened context text → Accounted rs k bs context text

-- the same without a word on the piece's tag: it follows, and by itself would hold of a program that checks no tag
abbrev pub UnsealedPiece : List ℕ → List ℕ → List Request → Type 0
UnsealedPiece k bs rs = (p : Piece) × ((has_piece p (pieces_in k bs) ≡ true) × (was_sealed p rs ≡ false))

unfoldable pub WhatOpensWasSealedWhateverTag : Type 0
WhatOpensWasSealedWhateverTag =
    (rs : List Request) (k bs text : List ℕ) (context : List Pair) → all_good rs ≡ true → all_bytes k ≡ true → length k ≡ 32 → all_bytes bs ≡ true → open_message k bs ≡ opened context text →
    SealedHere rs k bs context text ⊎ (UnsealedPiece k bs rs ⊎ (IdReused rs ⊎ KeysCollide k rs))
