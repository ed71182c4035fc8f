-- `lay_out` meets its contract: after the last slot every slot is laid out.
use Rattle.std.proofs.Common.{arith}
use Rattle.day_plan.specs.DayLaws.{laid_done}
use Rattle.day_plan.proofs.layout.lay_out.Goals as goal

pub returns : goal.returns
returns c = laid_done c.loop-i.invariant (omega arith)
