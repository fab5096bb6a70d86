-- A key written into a block of zeros, and each byte of a block joined with a mask.
use Rattle.std.proofs.Common.{◌≡◌, ℕ, ◌-◌, ◌<◌, ◌≤◌, ltb, List, [], ◌∷◌, ◌++◌, map, sym, refl, ap, ◌∙◌, ap₂}
use lib.ListN as L
use borrow.Rule.Slice.PartMut.{put_mid}
use Rattle.std.proofs.lemmas.List.{drop-replicate}
use Rattle.std.proofs.lemmas.Bool.{lt-ltb, le-ltb}
use Rattle.octets.specs.Bits.{bits_xor}
use Rattle.octets.specs.Bytes.{repeat}
use Rattle.octets.proofs.Bits.{pick_true, pick_false}
use Rattle.octets.proofs.Lists.{repeat_is}
use Rattle.sha512.specs.Sha512.{sha512}
use Rattle.hkdf.specs.Hmac.{each_xor, block_key}

pub each_xor_is : (k : ℕ) (bs : List ℕ) → each_xor k bs ≡ map (bits_xor 8 k) bs
unfolding each_xor
each_xor_is k [] = refl
each_xor_is k (b ∷ bs) = ap (λ xs. bits_xor 8 k b ∷ xs) (each_xor_is k bs)

filled_up : (h ys : List ℕ) (v : ℕ) → ys ≡ h → v ≡ L.length h → put_mid 0 v (L.replicate 128 0) ys ≡ h ++ repeat (128 - L.length h) 0
filled_up h ys v ey ev =
    ap₂ (λ (zs xs : List ℕ). zs ++ xs) ey (drop-replicate v 128 0 ∙ ap (λ (j : ℕ). L.replicate (128 - j) 0) ev ∙ sym (repeat_is (128 - L.length h) 0))

pub long_key : (k ys : List ℕ) (v : ℕ) → 128 < L.length k → ys ≡ sha512 k → v ≡ L.length ys → put_mid 0 v (L.replicate 128 0) ys ≡ block_key k
long_key k ys v l ey ev =
    filled_up (sha512 k) ys v ey (ev ∙ ap L.length ey)
    ∙ ap (λ (h : List ℕ). h ++ repeat (128 - L.length h) 0) (sym (pick_true (ltb 128 (L.length k)) (sha512 k) k (lt-ltb 128 (L.length k) l)))

pub short_key : (k ys : List ℕ) (v : ℕ) → L.length k ≤ 128 → ys ≡ k → v ≡ L.length k → put_mid 0 v (L.replicate 128 0) ys ≡ block_key k
short_key k ys v l ey ev =
    filled_up k ys v ey ev
    ∙ ap (λ (h : List ℕ). h ++ repeat (128 - L.length h) 0) (sym (pick_false (ltb 128 (L.length k)) (sha512 k) k (le-ltb 128 (L.length k) l)))
