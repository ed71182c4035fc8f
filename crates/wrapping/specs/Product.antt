-- The two words of a product of two words of w bits.
use Rattle.std.specs.Prelude.{ℕ, ◌*◌, ◌/◌, ◌%◌, ◌^◌}

-- the product modulo 2 ^ w, which is what the Rust's `wrapping_mul` gives
abbrev pub lower_word : (w a b : ℕ) → ℕ
lower_word w a b = (a * b) % 2 ^ w

-- what the product has above that
abbrev pub upper_word : (w a b : ℕ) → ℕ
upper_word w a b = a * b / 2 ^ w
