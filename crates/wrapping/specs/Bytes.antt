-- Little-endian numbers in a list of bytes.
use Rattle.std.specs.Prelude.{ℕ, zero, suc, ◌+◌, ◌*◌, ◌^◌, ◌<◌, List, slice_index}

-- the byte k places after the place i; 0 past the end of the list
abbrev pub byte_at : (s : List ℕ) (i k : ℕ) → ℕ
byte_at s i k = slice_index s (i + k)

-- every entry is a byte; past the end it is 0
abbrev pub AreBytes : List ℕ → Type 0
AreBytes s = (j : ℕ) → slice_index s j < 2 ^ 8

-- the number of the n bytes from the place i on, the lowest first
unfoldable pub little : (n : ℕ) (s : List ℕ) (i : ℕ) → ℕ
little zero s i = 0
little (suc n) s i = little n s i + byte_at s i n * 2 ^ (8 * n)
