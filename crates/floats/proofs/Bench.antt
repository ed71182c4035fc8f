-- The bench examples on floats (document 01), computed of the definitions.
use Rattle.std.specs.Prelude.{◌≡◌, refl, ℕ, Bool, true, false, Float}
use Rattle.std.specs.Float.{binary64}
use Rattle.std.specs.Float.Ieee.{of_bits, add, sub, mul, le, lt}
use Rattle.words.specs.Refusal.{order, chance, not_finite}
use Rattle.words.specs.Table.{Holds, end, ◌&◌}
use Rattle.floats.specs.Units.{dyadic}
use Rattle.floats.specs.Chances.{is_chance, coin_of}
use Rattle.floats.specs.Intervals.{interval_refusal, number_in, uniform_of}
use Rattle.floats.specs.Chances.{Coin}
use Rattle.floats.specs.declared.intervals.Interval.{Interval}
use Rattle.floats.specs.declared.intervals.Uniform.TheVariants.{Number, Refused}
use Rattle.floats.specs.Bench.{float_bench}

pub float_bench_holds : Holds float_bench
unfolding dyadic
float_bench_holds = refl & refl & refl & refl & end

-- ---- the others, by bit patterns
abbrev f64 : ℕ → Float
f64 bits = of_bits binary64 bits

-- the float 1
abbrev one : Float
one = f64 0x3FF0_0000_0000_0000

-- 1 + 2 ^ -52, the next float above 1
abbrev next_above_one : Float
next_above_one = f64 0x3FF0_0000_0000_0001

-- the word of 64 ones
abbrev all_ones : ℕ
all_ones = 0xFFFF_FFFF_FFFF_FFFF

-- an interval by its ends
abbrev between : Float → Float → Interval
between a b = record { low = a; high = b }

-- a coin by its fields
abbrev coin : (refusal : ℕ) (value : Bool) → Coin
coin r v = record { refusal = r; value = v }

-- `uniform` from 1 to 1 + 2 ^ -52 with a word of all ones is 1 + 2 ^ -52: it may equal high
pub reaches_high : uniform_of (between one next_above_one) all_ones ≡ Number next_above_one
unfolding interval_refusal number_in dyadic of_bits le sub mul add
reaches_high = refl

-- p = 0 is never true and p = 1 always, at the least and the largest double; the next float above 1 is refused, and -0 is not
pub chances :
    (coin_of (f64 0) 0 ≡ coin 0 false)
    × (coin_of (f64 0x8000_0000_0000_0000) 0 ≡ coin 0 false)
    × (coin_of one all_ones ≡ coin 0 true)
    × (coin_of next_above_one 0 ≡ coin chance false)
unfolding is_chance dyadic of_bits lt
chances = (refl, refl, refl, refl)

-- two faults at once, infinity and the order, the order and an overflow; and -0 and 0 are level
pub faults :
    (uniform_of (between (f64 0x7FF0_0000_0000_0000) one) 0 ≡ Refused not_finite)
    × (uniform_of (between (f64 0x7FEF_FFFF_FFFF_FFFF) (f64 0xFFEF_FFFF_FFFF_FFFF)) 0 ≡ Refused order)
    × (uniform_of (between (f64 0x8000_0000_0000_0000) (f64 0)) 0 ≡ Refused order)
unfolding interval_refusal of_bits le sub
faults = (refl, refl, refl)
