-- Names in rising order, told by each two neighbours.
use Rattle.std.proofs.Common.{◌≡◌, ℕ, zero, suc, ◌+◌, ◌<◌, Bool, true, false, List, [], ◌∷◌, length, get_or, sym, refl, subst, arith, ◌&&◌}
use Rattle.std.specs.List.{IsAllAdjacentAnswer}
use Rattle.std.proofs.lemmas.Bool.{and_from, and_left, and_right}
use Rattle.octets.specs.Bytes.{bytes_lt}
use Rattle.format.specs.Request.{rising}
use Rattle.header.specs.Models.{pairs}
use Rattle.header.specs.declared.request.Pair.{Pair}

abbrev pub comes_before : Pair → Pair → Bool
comes_before p q = bytes_lt p.name.now q.name.now

all_rise : (ps : List Pair) → ((k : ℕ) (d : Pair) → k + 1 < length ps → true ≡ comes_before (get_or ps k d) (get_or ps (k + 1) d)) → rising (pairs ps) ≡ true
unfolding rising
all_rise [] h = refl
all_rise (p ∷ []) h = refl
all_rise (p ∷ q ∷ ps) h =
    and_from _ _ (sym (h 0 p (omega arith))) (all_rise (q ∷ ps) (λ k d l. next k d (h (suc k) d (omega arith))))
  where
    next : (k : ℕ) (d : Pair) → true ≡ comes_before (get_or (p ∷ q ∷ ps) (suc k) d) (get_or (p ∷ q ∷ ps) (suc k + 1) d) → true ≡ comes_before (get_or (q ∷ ps) k d) (get_or (q ∷ ps) (k + 1) d)
    next k d e = let s : suc k + 1 ≡ suc (k + 1) = omega arith in subst (λ j. true ≡ comes_before (get_or (q ∷ ps) k d) (get_or (p ∷ q ∷ ps) j d)) s e

one_falls : (ps : List Pair) (k : ℕ) → k + 1 < length ps → ((d : Pair) → false ≡ comes_before (get_or ps k d) (get_or ps (k + 1) d)) → rising (pairs ps) ≡ false
unfolding rising
one_falls [] k l h = absurd (omega arith)
one_falls (p ∷ []) k l h = absurd (omega arith)
one_falls (p ∷ q ∷ ps) zero l h = and_left _ _ (sym (h p))
one_falls (p ∷ q ∷ ps) (suc k) l h = and_right (comes_before p q) _ (one_falls (q ∷ ps) k (omega arith) (λ d. next d (h d)))
  where
    next : (d : Pair) → false ≡ comes_before (get_or (p ∷ q ∷ ps) (suc k) d) (get_or (p ∷ q ∷ ps) (suc k + 1) d) → false ≡ comes_before (get_or (q ∷ ps) k d) (get_or (q ∷ ps) (k + 1) d)
    next d e = let s : suc k + 1 ≡ suc (k + 1) = omega arith in subst (λ j. false ≡ comes_before (get_or (q ∷ ps) k d) (get_or (p ∷ q ∷ ps) j d)) s e

pub rising_told : (ps : List Pair) (r : Bool) → IsAllAdjacentAnswer (λ p q b. b ≡ comes_before p q) ps r → r ≡ rising (pairs ps)
rising_told ps true h = sym (all_rise ps h)
rising_told ps false h = sym (one_falls ps h.0 h.1 h.2)

-- a conjunction whose first part is known
pub and_goes_on : (a b c : Bool) → a ≡ (b && c) → true ≡ b → c ≡ a
and_goes_on a b c e t = sym (simp (sym t) at e)

pub and_stops : (a b c : Bool) → a ≡ (b && c) → false ≡ b → false ≡ a
and_stops a b c e t = sym (simp (sym t) at e)
