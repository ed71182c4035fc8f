-- Which number an answered call gives, of every generator: a promise is all that these laws ask for, since a generator's words have their
-- size. A lent promise is the by-value promise of what engine and table make together, so they are laws of the lent calls too.
use Rattle.std.specs.Prelude.{false, ◌-◌, ◌/◌, ◌^◌, T, pos, negsuc, Float}
use Rattle.std.specs.Float.{fin, binary32, binary64}
use Rattle.std.specs.Float.Ieee.{le}
use Rattle.floats.specs.ExactValue.{Exactly}
use Rattle.floats.specs.UnitLaws.{float_exact, double_exact, double_never_above, double_never_below_zero}
use Rattle.random.specs.declared.backend.Random.{Random}
use Rattle.random.specs.Generator.{word_of, word64_of}
use Rattle.random.specs.Sizes.{word_sized, word64_sized}
use Rattle.float_draws.specs.declared.units.Fraction.{Fraction}
use Rattle.float_draws.specs.Units.{float_from, double_from}
use Rattle.float_draws.specs.Promises.{FloatPromise, DoublePromise}

-- `float` is exactly (word >> 8) / 2^24 of the next word (document 01)
pub float_value : {r : Fraction Float Random} (g : Random) → FloatPromise g r → Exactly binary32 r.value (word_of g / 2 ^ 8) 24
unfolding float_from
float_value g p = rw p (float_exact (word_of g) (word_sized g))

module _ {r : Fraction Float Random} (g : Random) (p : DoublePromise g r) where
  -- `double` is exactly (word >> 11) / 2^53 of the next 64-bit word (document 01),
  pub double_value : Exactly binary64 r.value (word64_of g / 2 ^ 11) 53
  unfolding double_from
  double_value = rw p (double_exact (word64_of g) (word64_sized g))

  -- and so from 0
  pub double_value_from_zero : T (le (fin false 0 (pos 0)) r.value)
  unfolding double_from
  double_value_from_zero = rw p (double_never_below_zero (word64_of g) (word64_sized g))

  -- to 1 - 2^-53
  pub double_value_below_one : T (le r.value (fin false (2 ^ 53 - 1) (negsuc 52)))
  unfolding double_from
  double_value_below_one = rw p (double_never_above (word64_of g) (word64_sized g))
