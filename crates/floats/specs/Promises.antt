-- What each public call promises of its answer: the contracts of src/, by name.
use Rattle.std.specs.Prelude.{Bool, ◌≡◌, ℕ, Float}
use Rattle.floats.specs.Chances.{chance_refusal, coin_of, is_chance}
use Rattle.floats.specs.Intervals.{ends_are_finite, interval_refusal, is_out_of_order, uniform_of}
use Rattle.floats.specs.Units.{double_of, float_of}
use Rattle.floats.specs.Chances.{Coin}
use Rattle.floats.specs.declared.intervals.Interval.{Interval}
use Rattle.floats.specs.declared.intervals.Uniform.{Uniform}

-- `is_chance`: whether p is from 0 to 1
abbrev pub IsChancePromise : Float → Bool → Type 0
IsChancePromise p r = r ≡ is_chance p

-- `chance_refusal`: 3 where p is no chance, and 0 where it is
abbrev pub ChanceRefusalPromise : Float → ℕ → Type 0
ChanceRefusalPromise p r = r ≡ chance_refusal p

-- `chance`: whether the word's double is below p; refused, false
abbrev pub ChancePromise : Float → ℕ → Coin → Type 0
ChancePromise p word r = r ≡ coin_of p word

-- `ends_are_finite`: neither end is a NaN or an infinity
abbrev pub EndsAreFinitePromise : Interval → Bool → Type 0
EndsAreFinitePromise i r = r ≡ ends_are_finite i

-- `is_out_of_order`: low ≥ high
abbrev pub IsOutOfOrderPromise : Interval → Bool → Type 0
IsOutOfOrderPromise i r = r ≡ is_out_of_order i

-- `interval_refusal`: the first fault that there is, 7, 2 or 7 again, and 0 where there is none
abbrev pub IntervalRefusalPromise : Interval → ℕ → Type 0
IntervalRefusalPromise i r = r ≡ interval_refusal i

-- `uniform_of`: low + (high - low) * double, each operation rounded once, or the refusal's number
abbrev pub UniformOfPromise : Interval → ℕ → Uniform → Type 0
UniformOfPromise i word r = r ≡ uniform_of i word

-- `float_of`: (word >> 8) / 2 ^ 24 exactly
abbrev pub FloatOfPromise : ℕ → Float → Type 0
FloatOfPromise word r = r ≡ float_of word

-- `double_of`: (word >> 11) / 2 ^ 53 exactly
abbrev pub DoubleOfPromise : ℕ → Float → Type 0
DoubleOfPromise word r = r ≡ double_of word
