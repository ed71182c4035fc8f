-- `number_of` meets its contract: a NaN's pattern, the sign aside, is above the infinity's.
use borrow.Author.Tests.{lt-ltb, le-ltb}
use lib.Ieee.{of_bits}
use lib.Ieee.Bits.{nan_bits_above}
use Rattle.float_bits.proofs.number_of.Goals as goal

pub returns-then-pattern-gt-INFINITY : goal.returns-then-pattern-gt-INFINITY
unfolding of_bits
returns-then-pattern-gt-INFINITY c = rw (nan_bits_above, lt-ltb _ _ c.if-pattern-gt-INFINITY.true)

pub float_from_bits-result : goal.float_from_bits-result
float_from_bits-result c = rw (nan_bits_above, le-ltb _ _ c.if-pattern-gt-INFINITY.false) tt

pub returns : goal.returns
returns c = rw (nan_bits_above, le-ltb _ _ c.if-pattern-gt-INFINITY.false)
