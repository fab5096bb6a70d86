-- Bytes written one after another: two writes come to one, and where one lacks room, so does all that begins with it.
use Rattle.std.proofs.Common.{◌≡◌, ℕ, List, ◌++◌, length, ◌≤◌, Some, None, Option, sym, refl, ap, ap₂, ◌∙◌, arith, length-append}
use Rattle.std.specs.Bool.{⊤}
use Rattle.std.specs.Option.{IsSome}
use Rattle.std.specs.Borrow.{MutBor}
use Rattle.octets.specs.declared.writer.Writer.{Writer}
use Rattle.octets.specs.Splice.{spliced, Written}
use Rattle.octets.specs.Writing.{Starts, Wrote, Lacked, Writes}
use Rattle.octets.proofs.Splice.{length-spliced, written_then}

pub writes_then : (old mid w : Writer) (a b : List ℕ) (r : Option ⊤) → Wrote old a mid → Writes mid b r w → Writes old (a ++ b) r w
writes_then old mid w a b (Some u) p q = record { same = q.same ∙ p.same; written = written_then _ _ _ a b _ _ _ p.written q.written }
writes_then old mid w a b None p q =
    let long : length mid.out.now ≡ length old.out.now = ap length p.written.holds ∙ length-spliced old.out.now old.at a p.written.room in
    let u = p.written.next in
    let v = q.lacks in
    record { same = q.same ∙ p.same; lacks = omega (arith, length-append a b) }

pub lacked_more : (old w : Writer) (a b : List ℕ) → Lacked old a w → Lacked old (a ++ b) w
lacked_more old w a b p = let u = p.lacks in record { same = p.same; lacks = omega (arith, length-append a b) }

pub lacked_then : (old mid w : Writer) (a b c : List ℕ) → Wrote old a mid → Lacked mid b w → Lacked old (a ++ (b ++ c)) w
lacked_then old mid w a b c p q = writes_then old mid w a (b ++ c) None p (lacked_more mid w b c q)

-- what the lent bytes hold once a writer that had room is done with them
pub written_whole : (lent : MutBor (List ℕ)) (start w : Writer) (new out : List ℕ) (n : ℕ) (r : Option ⊤) → n ≡ length new → n ≤ length lent.now → Starts lent start → Writes start new r w
    → (lent.ghost_name ≡ w.out.ghost_name → out ≡ w.out.now) → Written lent.now 0 new n out
written_whole lent start w new out n (Some u) e h p q ends =
    record { room = omega arith; next = omega arith; holds = ends (sym (q.same ∙ p.same)) ∙ q.written.holds ∙ ap₂ (λ old at. spliced old at new) p.holds p.front }
written_whole lent start w new out n None e h p q ends =
    let long : length start.out.now ≡ length lent.now = ap length p.holds in
    let front = p.front in
    let lacks = q.lacks in
    absurd (omega arith)

-- what a writer was lent has room for the bytes, so they are written
pub has_room : (lent : MutBor (List ℕ)) (start w : Writer) (new : List ℕ) (r : Option ⊤) → Starts lent start → Writes start new r w → length new ≤ length lent.now → IsSome r
has_room lent start w new (Some u) s p h = refl
has_room lent start w new None s p h = let a = ap length s.holds in let b = s.front in let l = p.lacks in absurd (omega arith)

-- and stand in front of what the lender holds then
pub lender_holds : (lent : MutBor (List ℕ)) (start w : Writer) (new x : List ℕ) → Starts lent start → Wrote start new w → (lent.ghost_name ≡ w.out.ghost_name → x ≡ w.out.now) → x ≡ spliced lent.now 0 new
lender_holds lent start w new x s p e = e (sym s.same ∙ sym p.same) ∙ p.written.holds ∙ ap₂ (λ l n. spliced l n new) s.holds s.front
