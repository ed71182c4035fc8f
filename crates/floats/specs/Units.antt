-- A float is read as whole numbers, as in the kit's account of IEEE 754: `fin s m e` is m * 2 ^ e, negative where s is true, written
-- with an odd m; `pos k` is the exponent k and `negsuc k` the exponent -(k + 1). Here: the float that is n / 2 ^ k exactly, and the
-- two draws that are such a number (document 01, "Draws").
use Rattle.std.specs.Prelude.{ℕ, zero, suc, ◌/◌, ◌%◌, ◌^◌, false, cond, pos, negsuc, eqb, Float}
use Rattle.std.specs.Float.{fin}

-- n / 2 ^ k, for an n below 2 ^ k: an even n is halved, with k one less, until it is odd. Zero ends as 0 * 2 ^ 0.
unfoldable pub dyadic : (n k : ℕ) → Float
dyadic n zero = fin false 0 (pos 0)
dyadic n (suc k) = cond (eqb (n % 2) 0) (dyadic (n / 2) k) (fin false n (negsuc k))

-- `float` is exactly (word >> 8) / 2^24
abbrev pub float_of : ℕ → Float
float_of word = dyadic (word / 2 ^ 8) 24

-- `double` is exactly (64-bit word >> 11) / 2^53
abbrev pub double_of : ℕ → Float
double_of word = dyadic (word / 2 ^ 11) 53
