-- `settle` meets its contract: the invariant is `Settling`, and each way through the loop is one law of it.
use Rattle.rehearsal.specs.Settling.{Settling}
use Rattle.rehearsal.proofs.settling.settle.Given as goal

abbrev pub invariant-loop-i : goal.invariant-loop-i
invariant-loop-i l = Settling l.initial.list l.initial.bound l.falls l.i l.settled l.bound l.list
