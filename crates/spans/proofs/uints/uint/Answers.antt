-- `uint` meets its contract: the answer over the lent table, and the table joined to it.
use Rattle.std.proofs.Common.{◌∙◌, ap}
use Rattle.bounded.specs.Answers.{in_numbers}
use Rattle.spans.proofs.uints.uint.Goals as goal

pub returns : goal.returns
returns c = ap in_numbers c.by_value.ensures ∙ rw c.engine_of.ensures at c.uint_in-a.ensures
