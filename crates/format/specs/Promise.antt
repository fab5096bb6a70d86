-- What is promised of a program that seals, reads headers and opens. Each statement is a type whose proof is owed.
use Rattle.std.specs.Prelude.{◌≡◌, ℕ, true, List, length, ◌==◌}
use Rattle.octets.specs.Bits.{pick}
use Rattle.octets.specs.Bytes.{repeat, all_bytes}
use Rattle.format.specs.Request.{Request, seal_refusal, well_formed}
use Rattle.format.specs.Message.{message}
use Rattle.format.specs.Reading.{ReadHeader, read_header}
use Rattle.format.specs.Opening.{Opened, not_opened, open_message}

-- what sealing answers
pub data Answer : Type 0 where
  not_sealed : ℕ → Answer
  sealed_as : List ℕ → Answer

-- a program by its functions: what it seals, how it reads a header with no key, how it opens, and what n lent bytes hold after opening
pub record Program : Type 0 where
  pub seals : Request → Answer
  pub reads : List ℕ → List ReadHeader
  pub opens : List ℕ → List ℕ → Opened
  pub leaves : List ℕ → List ℕ → ℕ → List ℕ

abbrev pub seal_answer : Request → Answer
seal_answer r = pick (seal_refusal r == 0) (sealed_as (message r)) (not_sealed (seal_refusal r))

-- the main promise, first half: each call does what the definitions say
unfoldable pub Correct : Program → Type 0
Correct f =
    ((r : Request) → well_formed r ≡ true → f.seals r ≡ seal_answer r)
    × ((bs : List ℕ) → all_bytes bs ≡ true → f.reads bs ≡ read_header bs)
    × ((k bs : List ℕ) → all_bytes k ≡ true → length k ≡ 32 → all_bytes bs ≡ true → f.opens k bs ≡ open_message k bs)
    × ((k bs : List ℕ) (n a b : ℕ) → all_bytes k ≡ true → length k ≡ 32 → all_bytes bs ≡ true → open_message k bs ≡ not_opened a b → f.leaves k bs n ≡ repeat n 0)

-- the same for a program that doesn't open yet
unfoldable pub CorrectSealing : Program → Type 0
CorrectSealing f = ((r : Request) → well_formed r ≡ true → f.seals r ≡ seal_answer r) × ((bs : List ℕ) → all_bytes bs ≡ true → f.reads bs ≡ read_header bs)
