-- Hexadecimal digits as bytes, and what a key file says. These are definitions: they assume nothing.
use Rattle.std.specs.Prelude.{ℕ, ◌+◌, ◌-◌, ◌*◌, Bool, cond, ◌&&◌, List, [], ◌∷◌, length, take, Some, None, Option, ◌==◌, nat_le, slice_index}

abbrev pub between : ℕ → ℕ → ℕ → Bool
between low high c = nat_le low c && nat_le c high

-- a digit's value: 0 to 9, a to f, A to F
abbrev pub digit : ℕ → Option ℕ
digit c = cond (between 48 57 c) (Some (c - 48)) (cond (between 97 102 c) (Some (c - 87)) (cond (between 65 70 c) (Some (c - 55)) None))

-- a byte of two digits, in front of the others
abbrev pub byte_before : Option ℕ → Option ℕ → Option (List ℕ) → Option (List ℕ)
byte_before None l bs = None
byte_before (Some h) None bs = None
byte_before (Some h) (Some l) None = None
byte_before (Some h) (Some l) (Some bs) = Some ((h * 16 + l) ∷ bs)

unfoldable pub unhex : List ℕ → Option (List ℕ)
unhex [] = Some []
unhex (h ∷ []) = None
unhex (h ∷ (l ∷ ds)) = byte_before (digit h) (digit l) (unhex ds)

-- 32 bytes, as 64 digits
abbrev pub unhex_32 : List ℕ → Option (List ℕ)
unhex_32 ds = cond (length ds == 64) (unhex ds) None

-- a key file: 32 bytes as they are, or 64 digits, with a line feed after them or without
abbrev pub key_of : List ℕ → Option (List ℕ)
key_of bs = cond (length bs == 32) (Some bs) (unhex_32 (cond (length bs == 65 && slice_index bs 64 == 10) (take 64 bs) bs))
