-- `float_of` meets its contract: the word's 24 high bits are below 2 ^ 24, so the cast and the product are exact.
use native.Mathlib.Omega.{arith}
use lib.Dec.{lit≤}
use lib.Ieee.{binary32, of_bits}
use Rattle.floats.specs.ExactDraw.{cast_exact, exact_draw}
use Rattle.floats.proofs.units.float_of.Goals as goal

pub int_to_float-result : goal.int_to_float-result
int_to_float-result c = cast_exact binary32 _ (omega arith)

pub returns : goal.returns
unfolding of_bits
returns c = exact_draw binary32 _ 23 (omega arith) (omega arith) (lit≤ tt)
