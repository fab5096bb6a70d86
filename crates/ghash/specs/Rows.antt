-- An element in four words of 32 bits, the high one first, and so in the rows of four tables.
use Rattle.std.specs.Prelude.{ℕ, ◌+◌, ◌*◌, ◌^◌, List, slice_index}
use Rattle.ghash.specs.declared.quad.Quad.{Quad}

abbrev pub four_words : ℕ → ℕ → ℕ → ℕ → ℕ
four_words a b c d = ((a * 2 ^ 32 + b) * 2 ^ 32 + c) * 2 ^ 32 + d

abbrev pub quad_value : Quad → ℕ
quad_value q = four_words q.a q.b q.c q.d

abbrev pub row_value : List ℕ → List ℕ → List ℕ → List ℕ → ℕ → ℕ
row_value a b c d k = four_words (slice_index a k) (slice_index b k) (slice_index c k) (slice_index d k)
