-- `plan_day` meets its contract: the answer over the lent table, and the table joined to it.
use Rattle.std.proofs.Common.{◌∙◌, ap}
use Rattle.shuffle.specs.Replies.{done_in_numbers}
use Rattle.day_plan.proofs.day.plan_day.Goals as goal

pub returns : goal.returns
returns c =
    let same = rw c.engine_of.ensures at c.plan_day_in-a.ensures in
    (ap done_in_numbers c.by_value.ensures ∙ same.0, same.1)
