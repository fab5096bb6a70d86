-- Laws of bytes written into the middle of others.
use Rattle.std.proofs.Common.{◌≡◌, ℕ, ◌+◌, ◌-◌, ◌≤◌, List, [], ◌++◌, length, take, drop, Some, None, Option, sym, refl, ap, ◌∙◌, append_assoc, add-zero, zero-add, arith, length-append, length-drop, take-append-drop, length-take-le, drop-drop, take_at, drop_at}
use borrow.Rule.Slice.PartMut.{put_mid}
use lib.Seq.{drop-append-add}
use Rattle.std.proofs.lemmas.List.{drop_all, take_rest, append-nil}
use Rattle.octets.specs.Splice.{spliced, Written, Put}

-- nothing written, and everything written
pub spliced_none : (old : List ℕ) (at : ℕ) → spliced old at [] ≡ old
spliced_none old at = rw add-zero (take-append-drop at old)

pub spliced_all : (old new : List ℕ) → length new ≡ length old → spliced old 0 new ≡ new
spliced_all old new h = ap (λ l. new ++ l) (drop_all (0 + length new) old (omega arith)) ∙ append-nil new

-- in three parts, the first and the second as long as the place and the bytes say
pub spliced_parts : (a b c new : List ℕ) → length new ≡ length b → spliced (a ++ (b ++ c)) (length a) new ≡ a ++ (new ++ c)
spliced_parts a b c new h =
    let back : drop (length a + length new) (a ++ (b ++ c)) ≡ c = drop-append-add a (b ++ c) (length new) ∙ drop_at b c (length new) (sym h) in
    ap (λ l. l ++ (new ++ drop (length a + length new) (a ++ (b ++ c)))) (take_at a (b ++ c) (length a) refl) ∙ ap (λ l. a ++ (new ++ l)) back

-- what a write leaves alone, and where it stands
front_long : (old new : List ℕ) (at : ℕ) → at ≤ length old → length (take at old ++ new) ≡ at + length new
front_long old new at h = length-append (take at old) new ∙ ap (λ n. n + length new) (length-take-le at old h)

as_two : (old : List ℕ) (at : ℕ) (new : List ℕ) → spliced old at new ≡ (take at old ++ new) ++ drop (at + length new) old
as_two old at new = sym (append_assoc (take at old) new (drop (at + length new) old))

pub length-spliced : (old : List ℕ) (at : ℕ) (new : List ℕ) → at + length new ≤ length old → length (spliced old at new) ≡ length old
length-spliced old at new h =
    let whole = length-append (take at old ++ new) (drop (at + length new) old) in
    let front = front_long old new at (omega arith) in
    let back = length-drop (at + length new) old in
    ap length (as_two old at new) ∙ omega arith

pub take-spliced : (old : List ℕ) (at : ℕ) (new : List ℕ) → at ≤ length old → take at (spliced old at new) ≡ take at old
take-spliced old at new h = take_at (take at old) (new ++ drop (at + length new) old) at (length-take-le at old h)

pub take-spliced_through : (old : List ℕ) (at : ℕ) (new : List ℕ) → at ≤ length old → take (at + length new) (spliced old at new) ≡ take at old ++ new
take-spliced_through old at new h =
    ap (λ l. take (at + length new) l) (as_two old at new) ∙ take_at (take at old ++ new) (drop (at + length new) old) (at + length new) (front_long old new at h)

pub drop-spliced : (old : List ℕ) (at : ℕ) (new : List ℕ) (more : ℕ) → at ≤ length old → drop (at + length new + more) (spliced old at new) ≡ drop (at + length new + more) old
drop-spliced old at new more h =
    let front : List ℕ = take at old ++ new in
    let back : List ℕ = drop (at + length new) old in
    let e : length (take at old ++ new) ≡ at + length new = front_long old new at h in
    ap (λ l. drop (at + length new + more) l) (as_two old at new) ∙ ap (λ n. drop (n + more) (front ++ back)) (sym e) ∙ drop-append-add front back more ∙ drop-drop more (at + length new) old

pub written_there : (old : List ℕ) (at : ℕ) (new : List ℕ) → at ≤ length old → take (length new) (drop at (spliced old at new)) ≡ new
written_there old at new h =
    ap (λ l. take (length new) l) (drop_at (take at old) (new ++ drop (at + length new) old) at (length-take-le at old h)) ∙ take_at new (drop (at + length new) old) (length new) refl

-- one write after the other is one of the two joined
pub spliced_twice : (old : List ℕ) (at : ℕ) (a b : List ℕ) → at + length a ≤ length old → spliced (spliced old at a) (at + length a) b ≡ spliced old at (a ++ b)
spliced_twice old at a b h =
    let fore : take (at + length a) (spliced old at a) ≡ take at old ++ a = take-spliced_through old at a (omega arith) in
    let aft : drop (at + length a + length b) (spliced old at a) ≡ drop (at + length a + length b) old = drop-spliced old at a (length b) (omega arith) in
    let sum : at + length a + length b ≡ at + length (a ++ b) = omega (arith, length-append a b) in
    ap (λ l. l ++ (b ++ drop (at + length a + length b) (spliced old at a))) fore ∙ ap (λ l. (take at old ++ a) ++ (b ++ l)) aft
    ∙ ap (λ n. (take at old ++ a) ++ (b ++ drop n old)) sum ∙ append_assoc (take at old) a _ ∙ ap (λ l. take at old ++ l) (sym (append_assoc a b _))

pub spliced_then : (old mid out a b : List ℕ) (at n : ℕ) → at + length a ≤ length old → n ≡ at + length a → mid ≡ spliced old at a → out ≡ spliced mid n b → out ≡ spliced old at (a ++ b)
spliced_then old mid out a b at n h e p q =
    q ∙ ap (λ l. spliced l n b) p ∙ ap (λ k. spliced (spliced old at a) k b) e ∙ spliced_twice old at a b h

-- a part of the bytes, written over as the code says it, and a part from a place to the end
pub spliced_mid : (at k : ℕ) (old part new : List ℕ) → part ≡ new → k ≡ length new → put_mid at k old part ≡ spliced old at new
spliced_mid at k old part new p e =
    ap (λ n. take at old ++ (part ++ drop n (drop at old))) e ∙ ap (λ l. take at old ++ (part ++ l)) (drop-drop (length new) at old)
    ∙ ap (λ l. take at old ++ (l ++ drop (at + length new) old)) p

pub spliced_rest : (at : ℕ) (old part new : List ℕ) → at ≤ length old → part ≡ spliced (take (length old - at) (drop at old)) 0 new → put_mid at (length old - at) old part ≡ spliced old at new
spliced_rest at old part new h e =
    let none : drop (length old - at) (drop at old) ≡ [] = drop_all (length old - at) (drop at old) (omega (arith, length-drop at old)) in
    let rest : drop (0 + length new) (take (length old - at) (drop at old)) ≡ drop (at + length new) old =
    ap (λ l. drop (0 + length new) l) (take_rest old at) ∙ ap (λ n. drop n (drop at old)) (zero-add (length new)) ∙ drop-drop (length new) at old in
    ap (λ l. take at old ++ (part ++ l)) none ∙ ap (λ l. take at old ++ l) (append-nil part ∙ e ∙ ap (λ l. new ++ l) rest)

-- what a write answers
pub put_other : (old : List ℕ) (at : ℕ) (a b : List ℕ) (r : Option ℕ) (out : List ℕ) → a ≡ b → Put old at a r out → Put old at b r out
put_other old at a b r out e p = rw e at p

pub put_fits : (old : List ℕ) (at : ℕ) (new : List ℕ) (r : Option ℕ) (out : List ℕ) → at + length new ≤ length old → Put old at new r out → (r ≡ Some (at + length new)) × (out ≡ spliced old at new)
put_fits old at new (Some n) out h p = (ap Some p.next, p.holds)
put_fits old at new None out h p = absurd (omega (arith, p.lacks))

pub put_written : (old : List ℕ) (at : ℕ) (new : List ℕ) (r : Option ℕ) (out : List ℕ) → at + length new ≤ length old → Put old at new r out → Written old at new (at + length new) out
put_written old at new r out h p = record { room = h; next = refl; holds = (put_fits old at new r out h p).1 }

pub written_then : (old mid out a b : List ℕ) (at n m : ℕ) → Written old at a n mid → Written mid n b m out → Written old at (a ++ b) m out
written_then old mid out a b at n m p q =
    let long : length mid ≡ length old = ap length p.holds ∙ length-spliced old at a p.room in
    let both = length-append a b in
    let u = p.next in
    let v = q.next in
    let w = q.room in
    record { room = omega arith; next = omega arith; holds = spliced_then old mid out a b at n p.room p.next p.holds q.holds }

-- where all is written over
pub written_all : (old new out : List ℕ) (n : ℕ) → length new ≡ length old → Written old 0 new n out → out ≡ new
written_all old new out n l p = p.holds ∙ spliced_all old new l

-- a second write where the first ended, with room for both
pub put_then : (old mid out a b : List ℕ) (at n : ℕ) (r : Option ℕ) → at + (length a + length b) ≤ length old → Written old at a n mid → Put mid n b r out → Put old at (a ++ b) r out
put_then old mid out a b at n (Some m) h p q = written_then old mid out a b at n m p q
put_then old mid out a b at n None h p q =
    let long : length mid ≡ length old = ap length p.holds ∙ length-spliced old at a p.room in
    let u = p.next in
    let v = q.lacks in
    absurd (omega arith)
