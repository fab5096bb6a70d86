-- Sixteen bytes as two words of 64 bits.
use Rattle.std.proofs.Common.{◌≡◌, ℕ, ◌+◌, ◌-◌, ◌*◌, ◌/◌, ◌%◌, ◌^◌, ◌<◌, List, length, get_or, sym, ap, ◌∙◌, arith, take_all, shl_exact, ◌≤◌, ◌++◌, ap₂, add-zero, length-take-le, drop-drop, take-add}
use lib.ListN as L
use lib.Bits.{bit_and, bit_or, and_mask, or_shifted}
use Rattle.octets.specs.Bytes.{take, drop, number, of_bytes}
use Rattle.octets.proofs.Lists.{take_is, drop_is, elements, elements_are}
use Rattle.octets.proofs.Numbers.{number_append, number_shift}

-- sixteen bytes read, the high one first
pub sixteen_bytes : (s : List ℕ) → length s ≡ 16
    → get_or s 0 0 * 1329227995784915872903807060280344576 + get_or s 1 0 * 5192296858534827628530496329220096 + get_or s 2 0 * 20282409603651670423947251286016 + get_or s 3 0 * 79228162514264337593543950336 + get_or s 4 0 * 309485009821345068724781056 + get_or s 5 0 * 1208925819614629174706176 + get_or s 6 0 * 4722366482869645213696 + get_or s 7 0 * 18446744073709551616 + get_or s 8 0 * 72057594037927936 + get_or s 9 0 * 281474976710656 + get_or s 10 0 * 1099511627776 + get_or s 11 0 * 4294967296 + get_or s 12 0 * 16777216 + get_or s 13 0 * 65536 + get_or s 14 0 * 256 + get_or s 15 0
    ≡ of_bytes s
unfolding elements number
sixteen_bytes s h =
    let e : s ≡ elements 16 0 0 s = sym (take_all 16 s (omega arith)) ∙ elements_are 16 0 0 s (omega arith) in
    omega arith ∙ ap (λ ys. number 0 ys) (sym e)

-- eight and sixteen bytes from a place on
part_is : (n at : ℕ) (s : List ℕ) → take n (drop at s) ≡ L.take n (L.drop at s)
part_is n at s = take_is n (drop at s) ∙ ap (λ ys. L.take n ys) (drop_is at s)

pub eight_read : (s : List ℕ) (at : ℕ) → at + 8 ≤ length s
    → get_or s at 0 * 72057594037927936 + get_or s (at + 1) 0 * 281474976710656 + get_or s (at + 2) 0 * 1099511627776 + get_or s (at + 3) 0 * 4294967296 + get_or s (at + 4) 0 * 16777216 + get_or s (at + 5) 0 * 65536 + get_or s (at + 6) 0 * 256 + get_or s (at + 7) 0
    ≡ of_bytes (take 8 (drop at s))
unfolding elements number
eight_read s at h =
    let e : take 8 (drop at s) ≡ elements 8 at 0 s = part_is 8 at s ∙ (ap (λ k. L.take 8 (L.drop k s)) (sym (add-zero at)) ∙ elements_are 8 at 0 s (omega arith)) in
    let z : get_or s (at + 0) 0 ≡ get_or s at 0 = ap (λ k. get_or s k 0) (add-zero at) in
    let n : get_or s at 0 * 72057594037927936 + get_or s (at + 1) 0 * 281474976710656 + get_or s (at + 2) 0 * 1099511627776 + get_or s (at + 3) 0 * 4294967296 + get_or s (at + 4) 0 * 16777216 + get_or s (at + 5) 0 * 65536 + get_or s (at + 6) 0 * 256 + get_or s (at + 7) 0 ≡ number 0 (elements 8 at 0 s) = omega arith in
    n ∙ ap (λ ys. number 0 ys) (sym e)

pub sixteen_read : (s : List ℕ) (at : ℕ) → at + 16 ≤ length s
    → of_bytes (take 8 (drop at s)) * 2 ^ 64 + of_bytes (take 8 (drop (at + 8) s)) ≡ of_bytes (take 16 (drop at s))
sixteen_read s at h =
    let xs : List ℕ = L.take 8 (L.drop at s) in
    let ys : List ℕ = L.take 8 (L.drop (at + 8) s) in
    let l : length ys ≡ 8 = length-take-le 8 (L.drop (at + 8) s) (omega (arith, L.length-drop (at + 8) s)) in
    let d : take 16 (drop at s) ≡ xs ++ ys = part_is 16 at s ∙ (take-add 8 8 (L.drop at s) ∙ ap (λ zs. xs ++ L.take 8 zs) (drop-drop 8 at s)) in
    ap₂ (λ k m. number 0 k * 2 ^ 64 + number 0 m) (part_is 8 at s) (part_is 8 (at + 8) s)
    ∙ (sym (number_append 0 xs ys ∙ (number_shift (number 0 xs) ys ∙ ap (λ k. number 0 xs * 256 ^ k + number 0 ys) l)) ∙ ap (λ zs. number 0 zs) (sym d))

pub all_read : (s : List ℕ) → length s ≡ 16 → of_bytes (take 16 (drop 0 s)) ≡ of_bytes s
all_read s h = ap (λ xs. number 0 xs) (part_is 16 0 s ∙ take_all 16 s (omega arith))

-- two words of sixteen bytes
pub halves : (n : ℕ) → n / 2 ^ 64 * 2 ^ 64 + bit_and n (2 ^ 64 - 1) ≡ n
halves n = omega (arith, and_mask n 64)

-- and written
pub joined : (h l : ℕ) → h < 2 ^ 64 → l < 2 ^ 64 → bit_or (h * 2 ^ 64 % 2 ^ 128) l ≡ h * 2 ^ 64 + l
joined h l hh hl = ap (λ k. bit_or k l) (shl_exact 64 64 128 hh (omega arith)) ∙ or_shifted h 64 l hl
