-- `arrange` meets its contract: the invariant is `Arranging`.
use Rattle.shuffle.specs.SwapLaws.{Arranging}
use Rattle.shuffle.proofs.arranging.arrange.Given as goal

abbrev pub invariant-loop-place : goal.invariant-loop-place
invariant-loop-place l = Arranging l.initial.at l.places l.place-index l.at l.initial.list l.list
