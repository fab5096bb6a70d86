-- Readers of frames in steps: after the nonce, and after the length.
use Rattle.std.proofs.Common.{◌≡◌, ℕ, ◌+◌, ◌≤◌, true, false, eqb, leb, List, [], ◌∷◌, length, take, drop, Some, None, Option, sym, refl, ap, ◌∙◌, ⊎_elim, arith}
use lib.Pointwise.{pointwise}
use Rattle.std.specs.Prelude.{nat_eq, MatchOption}
use Rattle.std.specs.Borrow.{Bor}
use Rattle.octets.specs.Bytes.{bytes_eq, to_bytes, of_bytes}
use Rattle.octets.specs.Cut.{cut, and_then, guard}
use Rattle.std.proofs.lemmas.Bool.{cases_lt}
use Rattle.octets.proofs.Numbers.{length-to_bytes}
use Rattle.octets.proofs.Order.{pointwise_is}
use Rattle.octets.proofs.Cuts.{cut_some, cut_none, and_then_some, and_then_none, guard_true, guard_false, and_then_assoc, and_then_ext, guard-and_then}
use Rattle.format.specs.Reading.{ReadFrame, read_regular, read_final}
use Rattle.frames.specs.Next.{after_nonce, rest, body}

pub nonce_step : {B : Type 0} (n : ℕ) (bs : List ℕ) (K : List ℕ → List B) → and_then (after_nonce n bs) K ≡ and_then (cut 12 bs) (λ v. guard (bytes_eq v.front (to_bytes 12 n)) (K v.rest))
unfolding and_then
nonce_step n bs K = and_then_assoc (cut 12 bs) _ K ∙ and_then_ext (cut 12 bs) _ _ (λ v. sym (guard-and_then (bytes_eq v.front (to_bytes 12 n)) (v.rest ∷ []) K))

pub regular_steps : (size n : ℕ) (bs : List ℕ) → and_then (after_nonce n bs) (λ r. body false size r) ≡ read_regular size n bs
regular_steps size n bs = nonce_step n bs (λ r. body false size r)

-- a final frame's length, at most the frame length, and as much
abbrev pub counted : ℕ → List ℕ → List ReadFrame
counted size bs = and_then (cut 4 bs) (λ l. guard (leb (of_bytes l.front) size) (body true (of_bytes l.front) l.rest))

pub final_steps : (size n : ℕ) (bs : List ℕ) → and_then (cut 4 bs) (λ m. guard (eqb (of_bytes m.front) n) (and_then (after_nonce n m.rest) (λ r. counted size r))) ≡ read_final size n bs
final_steps size n bs = and_then_ext (cut 4 bs) _ _ (λ m. ap (λ xs. guard (eqb (of_bytes m.front) n) xs) (nonce_step n m.rest (λ r. counted size r)))

-- the library's way of taking off a prefix
taken : (n : ℕ) (bs : List ℕ) → 12 ≤ length bs → guard (pointwise nat_eq (take (length (to_bytes 12 n)) bs) (to_bytes 12 n)) (drop (length (to_bytes 12 n)) bs ∷ []) ≡ after_nonce n bs
taken n bs h =
    rw (length-to_bytes 12 n, pointwise_is (take 12 bs) (to_bytes 12 n))
    (and_then_some _ (cut 12 bs) (λ v. guard (bytes_eq v.front (to_bytes 12 n)) (v.rest ∷ [])) (cut_some 12 bs _ _ h refl refl))

pub nonce_off : (n : ℕ) (bs : List ℕ) (r : Option (Bor (List ℕ)))
    → MatchOption r (pointwise nat_eq (take (length (to_bytes 12 n)) bs) (to_bytes 12 n) ≡ false) (λ x. (pointwise nat_eq (take (length (to_bytes 12 n)) bs) (to_bytes 12 n) ≡ true) × (x.now ≡ drop (length (to_bytes 12 n)) bs) × (length x.now + length (to_bytes 12 n) ≡ length bs))
    → rest r ≡ after_nonce n bs
nonce_off n bs None h =
    ⊎_elim (λ less. and_then_none (cut 12 bs) (λ v. guard (bytes_eq v.front (to_bytes 12 n)) (v.rest ∷ [])) (cut_none 12 bs less))
    (λ enough. sym (guard_false _ _ h) ∙ taken n bs enough) (cases_lt (length bs) 12)
nonce_off n bs (Some x) h = ap (λ l. l ∷ []) h.1 ∙ sym (guard_true _ _ h.0) ∙ taken n bs (let l = length-to_bytes 12 n in omega (arith, h.2))
