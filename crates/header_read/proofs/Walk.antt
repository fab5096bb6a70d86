-- Pairs gone through one after another, with a look at each name, come to the same as reading them all.
use Rattle.std.proofs.Common.{◌≡◌, ℕ, zero, suc, ◌-◌, ◌<◌, Bool, true, false, ◌&&◌, List, [], ◌∷◌, Some, None, Option, sym, refl, ap, ◌∙◌, arith, Bor}
use Rattle.octets.specs.Bytes.{bytes_lt}
use Rattle.octets.specs.Cut.{and_then, guard}
use Rattle.octets.proofs.Cuts.{and_then_ext, and_then_assoc}
use Rattle.format.specs.Request as Rq
use Rattle.format.specs.Request.{rising}
use Rattle.format.specs.Reading.{ReadPairs, cut_field, read_pairs}
use Rattle.header_read.specs.Cuts.{CutEntry, cut_pair}
use Rattle.header_read.specs.Parts.{rising_rest}
use Rattle.header_read.proofs.Steps.{guard_within, guard-guard}

-- names that rise behind one
abbrev rising_behind : List ℕ → List Rq.Pair → Bool
rising_behind k [] = true
rising_behind k (p ∷ ps) = bytes_lt k p.name && rising_behind p.name ps

rising_is : (p : Rq.Pair) (ps : List Rq.Pair) → rising_behind p.name ps ≡ rising (p ∷ ps)
unfolding rising
rising_is p [] = refl
rising_is p (q ∷ qs) = ap (λ b. bytes_lt p.name q.name && b) (rising_is q qs)

-- behind the last name, if there was one
abbrev rising_after : Option (List ℕ) → List Rq.Pair → Bool
rising_after None ps = rising ps
rising_after (Some k) ps = rising_behind k ps

abbrev pub follows : Option (List ℕ) → List ℕ → Bool
follows None k = true
follows (Some n) k = bytes_lt n k

follows_then : (last : Option (List ℕ)) (p : Rq.Pair) (ps : List Rq.Pair) → (follows last p.name && rising_behind p.name ps) ≡ rising_after last (p ∷ ps)
follows_then None p ps = rising_is p ps
follows_then (Some k) p ps = refl

-- the walk, as the loop makes it
unfoldable pub walk : Option (List ℕ) → ℕ → List ℕ → List (List ℕ)
walk last zero bs = bs ∷ []
walk last (suc n) bs = and_then (cut_pair bs) (λ p. guard (follows last p.entry.name) (walk (Some p.entry.name) n p.rest))

abbrev rest_after : Option (List ℕ) → ReadPairs → List (List ℕ)
rest_after last ps = guard (rising_after last ps.pairs) (ps.rest ∷ [])

abbrev pub with_pair : Rq.Pair → ReadPairs → ReadPairs
with_pair p ps = record { pairs = p ∷ ps.pairs; rest = ps.rest }

pub read_pairs_more : (n : ℕ) (bs : List ℕ) → read_pairs (suc n) bs ≡ and_then (cut_pair bs) (λ p. and_then (read_pairs n p.rest) (λ ps. with_pair p.entry ps ∷ []))
unfolding read_pairs and_then
read_pairs_more n bs =
    sym (and_then_assoc (cut_field bs) _ _ ∙ and_then_ext (cut_field bs) _ _ (λ k. and_then_assoc (cut_field k.rest) _ _))

rising_none : (last : Option (List ℕ)) → rising_after last [] ≡ true
unfolding rising
rising_none None = refl
rising_none (Some k) = refl

walk_is : (last : Option (List ℕ)) (n : ℕ) (bs : List ℕ) → walk last n bs ≡ and_then (read_pairs n bs) (rest_after last)
unfolding walk read_pairs and_then guard
walk_is last zero bs = sym (ap (λ b. guard b (bs ∷ [])) (rising_none last))
walk_is last (suc n) bs =
    and_then_ext (cut_pair bs) _ _ (λ p.
    ap (λ xs. guard (follows last p.entry.name) xs) (walk_is (Some p.entry.name) n p.rest)
    ∙ guard_within (follows last p.entry.name) (read_pairs n p.rest) (rest_after (Some p.entry.name))
    ∙ and_then_ext (read_pairs n p.rest) _ _ (λ ps. guard-guard (follows last p.entry.name) _ _ ∙ ap (λ b. guard b (ps.rest ∷ [])) (follows_then last p.entry ps.pairs))
    ∙ sym (and_then_assoc (read_pairs n p.rest) (λ ps. with_pair p.entry ps ∷ []) (rest_after last)))
    ∙ sym (and_then_assoc (cut_pair bs) _ (rest_after last))
    ∙ ap (λ xs. and_then xs (rest_after last)) (sym (read_pairs_more n bs))

pub walk_all : (n : ℕ) (bs : List ℕ) → walk None n bs ≡ rising_rest n bs
walk_all n bs = walk_is None n bs

-- a turn of the loop, and its exits
pub walk_turn : (last : Option (List ℕ)) (n : ℕ) (bs : List ℕ) (p : CutEntry Rq.Pair) → 0 < n → (p ∷ []) ≡ cut_pair bs → follows last p.entry.name ≡ true → walk (Some p.entry.name) (n - 1) p.rest ≡ walk last n bs
unfolding walk and_then guard
walk_turn last zero bs p h e f = absurd (omega arith)
walk_turn last (suc n) bs p h e f =
    let m : suc n - 1 ≡ n = omega arith in
    ap (λ k. walk (Some p.entry.name) k p.rest) m ∙ sym (ap (λ b. guard b (walk (Some p.entry.name) n p.rest)) f)
    ∙ ap (λ xs. and_then xs (λ q. guard (follows last q.entry.name) (walk (Some q.entry.name) n q.rest))) e

pub walk_falls : (last : Option (List ℕ)) (n : ℕ) (bs : List ℕ) (p : CutEntry Rq.Pair) → 0 < n → (p ∷ []) ≡ cut_pair bs → follows last p.entry.name ≡ false → [] ≡ walk last n bs
unfolding walk and_then guard
walk_falls last zero bs p h e f = absurd (omega arith)
walk_falls last (suc n) bs p h e f =
    sym (ap (λ b. guard b (walk (Some p.entry.name) n p.rest)) f)
    ∙ ap (λ xs. and_then xs (λ q. guard (follows last q.entry.name) (walk (Some q.entry.name) n q.rest))) e

pub walk_short : (last : Option (List ℕ)) (n : ℕ) (bs : List ℕ) → 0 < n → [] ≡ cut_pair bs → [] ≡ walk last n bs
unfolding walk and_then
walk_short last zero bs h e = absurd (omega arith)
walk_short last (suc n) bs h e = ap (λ xs. and_then xs (λ q. guard (follows last q.entry.name) (walk (Some q.entry.name) n q.rest))) e

pub walk_end : (last : Option (List ℕ)) (n : ℕ) (bs : List ℕ) → n ≡ 0 → (bs ∷ []) ≡ walk last n bs
unfolding walk
walk_end last n bs e = ap (λ k. walk last k bs) (sym e)

-- the last name as the loop holds it
abbrev pub last_name : Option (Bor (List ℕ)) → Option (List ℕ)
last_name None = None
last_name (Some r) = Some r.now
