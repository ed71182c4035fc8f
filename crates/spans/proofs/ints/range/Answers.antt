-- `range` meets its contract: it is `int`.
use Rattle.signed.specs.Callers.{arg_read}
use Rattle.spans.proofs.ints.range.Goals as goal

pub returns : goal.returns
returns c = rw (arg_read c.ranges.min, arg_read c.ranges.max) at c.int.ensures
