-- `lay_out` meets its contract: the invariant is `LaidTo`.
use Rattle.day_plan.specs.DayLaws.{LaidTo}
use Rattle.day_plan.proofs.layout.lay_out.Given as goal

abbrev pub invariant-loop-i : goal.invariant-loop-i
invariant-loop-i l = LaidTo l.blanks l.i l.initial.day l.day
