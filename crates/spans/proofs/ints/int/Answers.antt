-- `int` meets its contract: the answer over the lent table, and the table joined to it.
use Rattle.std.proofs.Common.{◌∙◌, ap}
use Rattle.signed.specs.Callers.{arg_read}
use Rattle.spans.specs.IntAnswers.{int_in_numbers}
use Rattle.spans.proofs.ints.int.Goals as goal

pub returns : goal.returns
returns c =
    let f = c.ranges in
    ap int_in_numbers c.by_value.ensures
    ∙ rw (c.engine_of.ensures, arg_read f.min, arg_read f.max) at c.int_in-a.ensures
