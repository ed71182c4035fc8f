-- `source_run` meets its contract: the invariant is that the draws stand after `used` words where the code says.
use Rattle.std.proofs.Common.{◌-◌}
use Rattle.rehearsal.specs.Kinds.{SourceLooking}
use Rattle.rehearsal.proofs.rehearsing.source_run.Given as goal

abbrev pub invariant-loop-settled : goal.invariant-loop-settled
invariant-loop-settled g l = SourceLooking g.S.Source.drawn l.initial.next l.d l.used l.settled l.bound l.next

abbrev pub decreases-loop-settled : goal.decreases-loop-settled
decreases-loop-settled g l = l.d.budget - l.used
