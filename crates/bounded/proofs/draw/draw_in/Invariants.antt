-- `draw_in` meets its contract: the invariant is `Trying`, and each way through the loop is one law of it.
use Rattle.random.specs.Lent.{joined_with}
use Rattle.bounded.specs.Trying.{Trying}
use Rattle.bounded.proofs.draw.draw_in.Given as goal

abbrev pub invariant-loop-used : goal.invariant-loop-used
invariant-loop-used l = Trying (joined_with l.initial.next l.initial.mt) l.r l.budget l.used (joined_with l.next l.mt)
