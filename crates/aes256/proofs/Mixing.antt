-- Column mixing on words: the parts of four bytes, each rotated to its place, are the mixed column.
use Rattle.std.proofs.Common.{◌≡◌, ℕ, ◌+◌, ◌-◌, ◌*◌, ◌/◌, ◌%◌, ◌^◌, ◌<◌, Bool, true, false, ltb, sym, refl, ap, ◌∙◌, ap₂, arith}
use lib.Bits.{bit_xor, bit_or, xor_comm, xor_assoc, or_shifted_r}
use Rattle.std.proofs.lemmas.Bool.{ltb-true}
use Rattle.octets.specs.Bits.{pick, bits_xor}
use Rattle.octets.proofs.Bits.{bits_xor_is, bits_xor_lt}
use Rattle.aes256.specs.Field.{xtime}
use Rattle.aes256.specs.Aes.{mix_byte, sub_byte}
use Rattle.aes256.specs.Columns.{word, column, mixed_word}
use Rattle.aes256.proofs.WordBytes.{xor_byte, xor_words}

-- what each operation gives is a byte
pub sub_lt : (a : ℕ) → sub_byte a < 256
unfolding sub_byte
sub_lt a = bits_xor_lt 8 _ _

xtime_cases : (a : ℕ) (t : Bool) → ltb a 128 ≡ t → pick t (2 * a) (bits_xor 8 (2 * a - 256) 27) < 256
unfolding pick
xtime_cases a true e = let h : a < 128 = ltb-true a 128 e in omega arith
xtime_cases a false e = bits_xor_lt 8 (2 * a - 256) 27

pub xtime_lt : (a : ℕ) → xtime a < 256
xtime_lt a = xtime_cases a (ltb a 128) refl

pub mix_lt : (a b c d : ℕ) → mix_byte a b c d < 256
mix_lt a b c d = bits_xor_lt 8 (bits_xor 8 (xtime a) (bits_xor 8 (xtime b) b)) (bits_xor 8 c d)

-- three times a byte
abbrev thrice : ℕ → ℕ
thrice a = bits_xor 8 (xtime a) a

thrice_lt : (a : ℕ) → thrice a < 256
thrice_lt a = bits_xor_lt 8 (xtime a) a

mix_is : (a b c d : ℕ) → c < 256 → d < 256 → mix_byte a b c d ≡ bit_xor (bit_xor (xtime a) (thrice b)) (bit_xor c d)
mix_is a b c d r s =
    bits_xor_is 8 (bits_xor 8 (xtime a) (thrice b)) (bits_xor 8 c d) (bits_xor_lt 8 (xtime a) (thrice b)) (bits_xor_lt 8 c d)
    ∙ ap₂ bit_xor (bits_xor_is 8 (xtime a) (thrice b) (xtime_lt a) (thrice_lt b)) (bits_xor_is 8 c d r s)

-- four terms, the first put last
xor_cycle : (a b c d : ℕ) → bit_xor (bit_xor a b) (bit_xor c d) ≡ bit_xor (bit_xor b c) (bit_xor d a)
xor_cycle a b c d =
    xor_comm (bit_xor a b) (bit_xor c d) ∙ ap (λ (x : ℕ). bit_xor x (bit_xor a b)) (xor_comm c d)
    ∙ xor_assoc d c (bit_xor a b) ∙ ap (bit_xor d) (sym (xor_assoc c a b) ∙ xor_comm (bit_xor c a) b ∙ sym (xor_assoc b c a))
    ∙ sym (xor_assoc d (bit_xor b c) a) ∙ ap (λ (x : ℕ). bit_xor x a) (xor_comm d (bit_xor b c)) ∙ xor_assoc (bit_xor b c) d a

sum_of_parts : (a b c d : ℕ) → a < 256 → b < 256 → c < 256 → d < 256
    → bit_xor (bit_xor (column a) (word (thrice b) (xtime b) b b)) (bit_xor (word c (thrice c) (xtime c) c) (word d d (thrice d) (xtime d))) ≡ mixed_word a b c d
unfolding mixed_word
sum_of_parts a b c d p q r s =
    let a2 = xtime_lt a in let a3 = thrice_lt a in let b2 = xtime_lt b in
    let c2 = xtime_lt c in let c3 = thrice_lt c in let d2 = xtime_lt d in let d3 = thrice_lt d in
    let ab = xor_words (xtime a) a a (thrice a) (thrice b) (xtime b) b b p p a3 b2 q q in
    let cd = xor_words c (thrice c) (xtime c) c d d (thrice d) (xtime d) c3 c2 r s d3 d2 in
    let all = xor_words (bit_xor (xtime a) (thrice b)) (bit_xor a (xtime b)) (bit_xor a b) (bit_xor (thrice a) b)
    (bit_xor c d) (bit_xor (thrice c) d) (bit_xor (xtime c) (thrice d)) (bit_xor c (xtime d))
    (xor_byte a (xtime b) p b2) (xor_byte a b p q) (xor_byte (thrice a) b a3 q)
    (xor_byte (thrice c) d c3 s) (xor_byte (xtime c) (thrice d) c2 d3) (xor_byte c (xtime d) r d2) in
    ap₂ bit_xor ab cd ∙ all
    ∙ ap₂ (λ (x y : ℕ). x * 16777216 + y) (sym (mix_is a b c d r s))
    (ap₂ (λ (x y : ℕ). x * 65536 + y) (xor_cycle a (xtime b) (thrice c) d ∙ sym (mix_is b c d a s p))
    (ap₂ (λ (x y : ℕ). x * 256 + y) (xor_comm (bit_xor a b) (bit_xor (xtime c) (thrice d)) ∙ sym (mix_is c d a b p q))
    (sym (xor_cycle (xtime d) (thrice a) b c) ∙ sym (mix_is d a b c q r))))

-- what rotate_right(n) returns, for n from 1 to 31, and where it puts the bytes
abbrev pub rotr : ℕ → ℕ → ℕ
rotr n q = bit_or (q / 2 ^ (n % 32)) ((q * 2 ^ ((32 - n % 32) % 32)) % 2 ^ 32)

rotr_8 : (a b c d : ℕ) → a < 256 → b < 256 → c < 256 → d < 256 → rotr 8 (word a b c d) ≡ word d a b c
rotr_8 a b c d p q r s =
    let lo : word a b c d / 256 ≡ a * 65536 + (b * 256 + c) = omega arith in
    let hi : (word a b c d * 16777216) % 4294967296 ≡ d * 16777216 = omega arith in
    ap₂ bit_or lo hi ∙ or_shifted_r d 24 (a * 65536 + (b * 256 + c)) (omega arith)

rotr_16 : (a b c d : ℕ) → a < 256 → b < 256 → c < 256 → d < 256 → rotr 16 (word a b c d) ≡ word c d a b
rotr_16 a b c d p q r s =
    let lo : word a b c d / 65536 ≡ a * 256 + b = omega arith in
    let hi : (word a b c d * 65536) % 4294967296 ≡ (c * 256 + d) * 65536 = omega arith in
    let o : bit_or (a * 256 + b) ((c * 256 + d) * 65536) ≡ (c * 256 + d) * 65536 + (a * 256 + b) = or_shifted_r (c * 256 + d) 16 (a * 256 + b) (omega arith) in
    ap₂ bit_or lo hi ∙ (o ∙ omega arith)

rotr_24 : (a b c d : ℕ) → a < 256 → b < 256 → c < 256 → d < 256 → rotr 24 (word a b c d) ≡ word b c d a
rotr_24 a b c d p q r s =
    let lo : word a b c d / 16777216 ≡ a = omega arith in
    let hi : (word a b c d * 256) % 4294967296 ≡ (b * 65536 + (c * 256 + d)) * 256 = omega arith in
    let o : bit_or a ((b * 65536 + (c * 256 + d)) * 256) ≡ (b * 65536 + (c * 256 + d)) * 256 + a = or_shifted_r (b * 65536 + (c * 256 + d)) 8 a (omega arith) in
    ap₂ bit_or lo hi ∙ (o ∙ omega arith)

pub rotated_sum : (a b c d : ℕ) → a < 256 → b < 256 → c < 256 → d < 256
    → bit_xor (bit_xor (column a) (rotr 8 (column b))) (bit_xor (rotr 16 (column c)) (rotr 24 (column d))) ≡ mixed_word a b c d
rotated_sum a b c d p q r s =
    ap₂ bit_xor (ap (bit_xor (column a)) (rotr_8 (xtime b) b b (thrice b) (xtime_lt b) q q (thrice_lt b)))
    (ap₂ bit_xor (rotr_16 (xtime c) c c (thrice c) (xtime_lt c) r r (thrice_lt c)) (rotr_24 (xtime d) d d (thrice d) (xtime_lt d) s s (thrice_lt d)))
    ∙ sum_of_parts a b c d p q r s
