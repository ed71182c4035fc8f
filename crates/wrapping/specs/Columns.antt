-- The product of two words of 64 bits by halves of 32 bits, in columns, and that its two words are the product's: what a processor that
-- multiplies words of 32 bits works out.
use Rattle.std.specs.Prelude.{◌≡◌, ℕ, ◌+◌, ◌*◌, ◌/◌, ◌%◌, ◌^◌}
use Rattle.std.proofs.Common.{sym, ◌∙◌, div-add-mod', arith}
use Rattle.std.proofs.Math.Arith.{digits_div, digits_mod}
use Rattle.wrapping.specs.Product.{lower_word, upper_word}

-- the second column: the product of a's high half and b's low half, with what the first column carries
abbrev pub second_of : (a b : ℕ) → ℕ
second_of a b = a / 2 ^ 32 * (b % 2 ^ 32) + a % 2 ^ 32 * (b % 2 ^ 32) / 2 ^ 32

-- the third column: the second's low half beside the product of a's low half and b's high half
abbrev pub third_of : (a b : ℕ) → ℕ
third_of a b = second_of a b % 2 ^ 32 + a % 2 ^ 32 * (b / 2 ^ 32)

-- the two words, off the columns
abbrev pub upper_of : (a b : ℕ) → ℕ
upper_of a b = a / 2 ^ 32 * (b / 2 ^ 32) + second_of a b / 2 ^ 32 + third_of a b / 2 ^ 32

-- the lower word, off the columns
abbrev pub lower_of : (a b : ℕ) → ℕ
lower_of a b = third_of a b % 2 ^ 32 * 2 ^ 32 + (a % 2 ^ 32 * (b % 2 ^ 32)) % 2 ^ 32

-- multiplied out by halves, the product is the two words
both : (a b : ℕ) → a * b ≡ upper_of a b * 2 ^ 64 + lower_of a b
both a b = (λ i. sym (div-add-mod' a (2 ^ 32)) i * sym (div-add-mod' b (2 ^ 32)) i) ∙ omega arith

-- so the words off the columns are the words of the product
pub upper_is : (a b : ℕ) → upper_of a b ≡ upper_word 64 a b
upper_is a b = rw (both a b) (sym (digits_div (upper_of a b) (omega arith)))

pub lower_is : (a b : ℕ) → lower_of a b ≡ lower_word 64 a b
lower_is a b = rw (both a b) (sym (digits_mod (upper_of a b) (omega arith)))
