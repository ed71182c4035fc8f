-- `number_in` meets its contract: the same operations in the same order.
use Rattle.floats.specs.Intervals.{number_in}
use Rattle.floats.proofs.intervals.number_in.Goals as goal

pub returns : goal.returns
unfolding number_in
returns c = rw c.double_of-d.ensures
