-- What stands in lent bytes after a part of them was written, and after their front was taken.
use Rattle.std.proofs.Common.{◌≡◌, ℕ, ◌+◌, ◌-◌, ◌≤◌, min, List, ◌++◌, length, take, drop, refl, sym, ap, ap₂, ◌∙◌, arith, le_refl, zero-add, drop_at, length-take-le}
use Rattle.std.proofs.Math.Nat.{min-le_right}
use Rattle.std.proofs.lemmas.List.{drop_min, drop-take, length-drop}
use Rattle.std.proofs.lemmas.List.Edits.{take-paste}
use Rattle.std.proofs.lemmas.Slice.{take-put_mid_below}
use Rattle.std.specs.List.{copy_within}
use borrow.Rule.Slice.PartMut.{put_mid, post_of}
use lib.Seq.{take-add, take-append-le}

-- so many bytes more stand behind the first ones
pub take-put_mid : (a k n : ℕ) (xs ys : List ℕ) → a ≤ length xs → n ≤ length ys → take (a + n) (put_mid a k xs ys) ≡ take a xs ++ take n ys
take-put_mid a k n xs ys within fits =
    let after = post_of a k xs in
    let front = take-put_mid_below _ _ _ _ _ (le_refl _) within in
    let back = ap (take n) (drop_at (take a xs) (ys ++ after) a (length-take-le a xs within)) ∙ take-append-le n ys after fits in
    take-add a n (put_mid a k xs ys) ∙ ap₂ (λ l m. l ++ m) front back

-- they are all that stands behind what was held before
pub drop-put_mid : (a k n : ℕ) (held xs ys : List ℕ) → held ≡ take a xs → a ≤ length xs → n ≤ length ys → drop (length held) (take (a + n) (put_mid a k xs ys)) ≡ take n ys
drop-put_mid a k n held xs ys shown within fits =
    ap₂ (λ l m. drop (length l) m) shown (take-put_mid a k n xs ys within fits) ∙ drop_at (take a xs) (take n ys) (length (take a xs)) refl

-- what was held and isn't taken stands in front
pub take-copy_within : (n k h : ℕ) (held xs new : List ℕ) → k ≡ min n h → held ≡ take h xs → h ≤ length xs → new ≡ copy_within xs k h 0 → take (h - k) new ≡ drop n held
take-copy_within n k h held xs new least shown within moved =
    let below : k ≤ h = omega (arith, least, min-le_right n h) in
    let there : h - k ≤ length (drop k xs) = omega (arith, within, length-drop k xs) in
    let front = ap (take (h - k)) moved ∙ ap (λ i. take i (copy_within xs k h 0)) (sym (zero-add (h - k))) ∙ take-paste xs 0 (drop k xs) (h - k) (omega arith) there in
    let whole : k + (h - k) ≡ h = omega (arith, below) in
    let rest = sym (drop-take k (h - k) xs) ∙ ap (λ i. drop k (take i xs)) whole in
    let fewer = ap (λ i. drop i (take h xs)) (least ∙ ap (min n) (sym (length-take-le h xs within))) ∙ drop_min n (take h xs) in
    front ∙ rest ∙ fewer ∙ ap (drop n) (sym shown)
