-- What `uniform` answers (document 01, "Draws" and "When the unit says no"). `sub`, `mul` and `add` are IEEE 754's: each works out its
-- result exactly and rounds it once, to nearest, ties to even (`Rounding` says what that is). `le` is its order, in which -0 and 0 are
-- level.
use Rattle.std.specs.Prelude.{ℕ, zero, suc, Bool, not, ◌&&◌, cond, Float}
use Rattle.std.specs.Float.{binary64}
use Rattle.std.specs.Float.Ieee.{add, sub, mul, le}
use Rattle.std.specs.Float.Ieee.Scale.{finite}
use Rattle.words.specs.Refusal.{order, not_finite}
use Rattle.floats.specs.Units.{double_of}
use Rattle.floats.specs.declared.intervals.Interval.{Interval}
use Rattle.floats.specs.declared.intervals.Uniform.{Uniform}
use Rattle.floats.specs.declared.intervals.Uniform.TheVariants.{Number, Refused}

-- neither end is a NaN or an infinity
abbrev pub ends_are_finite : Interval → Bool
ends_are_finite i = finite i.low && finite i.high

-- low ≥ high
abbrev pub is_out_of_order : Interval → Bool
is_out_of_order i = le i.high i.low

-- the difference of the ends, rounded
abbrev pub width : Interval → Float
width i = sub binary64 i.high i.low

-- an end that is not finite, then the order, then a difference that overflows; 0 where there is none of these
unfoldable pub interval_refusal : Interval → ℕ
interval_refusal i = cond (not (ends_are_finite i)) not_finite (cond (is_out_of_order i) order (cond (not (finite (width i))) not_finite 0))

-- low + (high - low) * double
unfoldable pub number_in : (i : Interval) (word : ℕ) → Float
number_in i word = add binary64 i.low (mul binary64 (width i) (double_of word))

-- the answer by its cases: the number drawn where there is no refusal, and otherwise the refusal's number alone
abbrev pub answered : (refusal : ℕ) (number : Float) → Uniform
answered zero v = Number v
answered (suc k) v = Refused (suc k)

-- the whole answer that a word gives
abbrev pub uniform_of : (i : Interval) (word : ℕ) → Uniform
uniform_of i word = answered (interval_refusal i) (number_in i word)

-- document 01's number of an answer: 0 where it is a number drawn
abbrev pub refusal_of : Uniform → ℕ
refusal_of (Number v) = 0
refusal_of (Refused k) = k
