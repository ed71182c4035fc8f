-- An `f64`'s bit pattern and the float of a pattern, as IEEE 754 has them, with 0 in both places that a NaN would have.
use Rattle.std.specs.Prelude.{ℕ, false, cond, pos, Float}
use Rattle.std.specs.Float.{binary64, fin}
use Rattle.std.specs.Float.Ieee.{is_nan, to_bits, nan_bits, of_bits}

abbrev pub pattern_of : Float → ℕ
pattern_of x = cond (is_nan x) 0 (to_bits binary64 x)

abbrev pub number_of : ℕ → Float
number_of pattern = cond (nan_bits binary64 pattern) (fin false 0 (pos 0)) (of_bits binary64 pattern)
