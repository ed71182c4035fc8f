-- `is_finite` meets its contract: the code compares with both infinities, which it makes as 1 / 0.
use lib.Ieee.{of_bits, div, neg}
use Rattle.floats.specs.FiniteLaws.{finite_tests}
use Rattle.floats.proofs.intervals.is_finite.Goals as goal

pub returns-then-x-infinity : goal.returns-then-x-infinity
unfolding of_bits div neg
returns-then-x-infinity c = rw (finite_tests c.args.x, c.if-x-infinity.true)

pub returns-else-x-infinity : goal.returns-else-x-infinity
unfolding of_bits div neg
returns-else-x-infinity c = rw (finite_tests c.args.x, c.if-x-infinity.false)
