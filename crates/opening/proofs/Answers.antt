-- What an answer says of the lent bytes: the text and then zeros, or zeros.
use Rattle.std.proofs.Common.{◌≡◌, ℕ, ◌-◌, ◌<◌, ◌≤◌, true, List, ◌++◌, length, Ok, Err, Result, MatchResult, refl, sym, ap, ◌∙◌, arith, length-drop, length-take-le, drop_at, subst}
use native.Mathlib.Nat.{sub-zero}
use borrow.Rule.Slice.PartMut.{put_mid}
use lib.ListN as L
use Rattle.std.proofs.lemmas.List.{append-nil, drop_all}
use Rattle.std.proofs.lemmas.Slice.{take-put_mid_below}
use Rattle.std.proofs.lemmas.Bool.{lt-ltb, le-ltb}
use Rattle.octets.specs.Bytes.{all_bytes, repeat}
use Rattle.octets.proofs.Bits.{pick_true, pick_false}
use Rattle.format.specs.Request.{Pair, Request}
use Rattle.format.specs.Opening as Opening
use Rattle.format.specs.Opening.{opened, not_opened}
use Rattle.format.specs.Sealed.{all_good, Accounted, WhatOpensWasSealed}
use Rattle.format.proofs.Accounted.{what_opens_was_sealed}
use Rattle.header_read.specs.Parts.{pairs_in}
use Rattle.opening.specs.Answer.{answer, text_len, opening, open_answer, Accounts}
use Rattle.opening.specs.declared.message.Opened.{Opened}
use Rattle.opening.specs.declared.refusal.OpenRefusal.{OpenRefusal}

pub answer_short : (room : ℕ) (k bs : List ℕ) → room < length bs → not_opened 1 0 ≡ open_answer room k bs
answer_short room k bs h = sym (pick_true _ _ _ (lt-ltb room (length bs) h))

pub answer_enough : (room : ℕ) (k bs : List ℕ) (a : Opening.Opened) → length bs ≤ room → a ≡ opening k bs → a ≡ open_answer room k bs
answer_enough room k bs a h e = e ∙ sym (pick_false _ _ _ (le-ltb room (length bs) h))

-- a refusal doesn't depend on the lent bytes, and leaves zeros
pub refused_whatever : (r : Result Opened OpenRefusal) (e : OpenRefusal) (a b : List ℕ) → r ≡ Err e → answer r a ≡ answer r b
refused_whatever r e a b h = ap (λ q. answer q a) h ∙ sym (ap (λ q. answer q b) h)

pub refused_zeros : (r : Result Opened OpenRefusal) (e : OpenRefusal) (out : List ℕ) (n : ℕ) → r ≡ Err e → out ≡ repeat n 0 → L.drop (text_len r) out ≡ repeat (n - text_len r) 0
refused_zeros r e out n h z = ap (λ q. L.drop (text_len q) out) h ∙ z ∙ ap (λ k. repeat k 0) (sym (sub-zero n)) ∙ sym (ap (λ q. repeat (n - text_len q) 0) h)

-- what is written behind the text leaves the answer, and zeros from there on are all that is left
pub text_known : {P : Opened → Type 0} (r : Result Opened OpenRefusal) (n : ℕ) → ((o : Opened) → P o → n ≡ o.len) → MatchResult r P (λ e. n ≡ 0) → n ≡ text_len r
text_known (Ok o) n f h = f o h
text_known (Err e) n f h = h

answer_same : (r : Result Opened OpenRefusal) (a b : List ℕ) → L.take (text_len r) a ≡ L.take (text_len r) b → answer r a ≡ answer r b
answer_same (Ok o) a b h = ap (λ t. opened (pairs_in o.context) t) h
answer_same (Err e) a b h = refl

pub answer_kept : (r : Result Opened OpenRefusal) (out zs : List ℕ) (n k : ℕ) → n ≡ text_len r → n ≤ length out → answer r (put_mid n k out zs) ≡ answer r out
answer_kept r out zs n k e l =
    answer_same r (put_mid n k out zs) out
    (ap (λ m. L.take m (put_mid n k out zs)) (sym e) ∙ take-put_mid_below n k out zs n (omega arith) l ∙ ap (λ m. L.take m out) e)

pub zeros_behind : (r : Result Opened OpenRefusal) (out zs : List ℕ) (n k room : ℕ) → n ≡ text_len r → n ≤ length out → k ≡ length out - n → length out ≡ room → zs ≡ repeat k 0
    → L.drop (text_len r) (put_mid n k out zs) ≡ repeat (room - text_len r) 0
zeros_behind r out zs n k room e l f g z =
    ap (λ m. L.drop m (put_mid n k out zs)) (sym e)
    ∙ drop_at (L.take n out) (zs ++ L.drop k (L.drop n out)) n (length-take-le n out l)
    ∙ ap (λ t. zs ++ t) (drop_all k (L.drop n out) (omega (arith, length-drop n out))) ∙ append-nil zs ∙ z
    ∙ ap (λ i. repeat i 0) (let s : k ≡ room - n = omega arith in s) ∙ ap (λ m. repeat (room - m) 0) e

-- what opened was sealed
pub accounted : (rs : List Request) (k bs text : List ℕ) (context : List Pair) → all_good rs ≡ true → all_bytes bs ≡ true → opening k bs ≡ opened context text → Accounted rs k bs context text
unfolding opening WhatOpensWasSealed
accounted rs k bs text context g b e = what_opens_was_sealed rs k bs text context g b e

pub accounts : (rs : List Request) (k bs : List ℕ) (r : Result Opened OpenRefusal) (out : List ℕ) → all_good rs ≡ true → all_bytes bs ≡ true → answer r out ≡ opening k bs → Accounts rs k bs r out
accounts rs k bs (Ok o) out g b e = accounted rs k bs (L.take o.len out) (pairs_in o.context) g b (sym e)
accounts rs k bs (Err e) out g b h = tt

pub refused_accounts : (rs : List Request) (k bs : List ℕ) (r : Result Opened OpenRefusal) (e : OpenRefusal) (out : List ℕ) → r ≡ Err e → Accounts rs k bs r out
refused_accounts rs k bs r e out h = subst (λ q. Accounts rs k bs q out) (sym h) tt
