-- Each promise leaves one answer: two that both meet it are equal.
use Rattle.std.specs.Prelude.{◌≡◌, ℕ, Float}
use Rattle.std.proofs.Common.{sym, ◌∙◌}
use Rattle.float_bits.specs.Promises.{NumberOfPromise, PatternOfPromise}

pub one_pattern_of : (x : Float) {a b : ℕ} → PatternOfPromise x a → PatternOfPromise x b → a ≡ b
one_pattern_of x p q = p ∙ sym q

pub one_number_of : (pattern : ℕ) {a b : Float} → NumberOfPromise pattern a → NumberOfPromise pattern b → a ≡ b
one_number_of pattern p q = p ∙ sym q
