-- `range_in` meets its contract: it is `int_in`.
use Rattle.signed.specs.Callers.{arg_read}
use Rattle.spans.proofs.ints.range_in.Goals as goal

pub returns : goal.returns
returns c =
    let f = c.ranges in
    rw (arg_read f.min, arg_read f.max) at c.int_in.ensures
