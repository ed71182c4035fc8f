-- `words_of_32` meets its contract: each turn writes two words more, and one may be left after the last.
use Rattle.std.proofs.Common.{◌*◌}
use Rattle.filling.specs.FillKinds.{Filled32}
use Rattle.filling.proofs.fill.words_of_32.Given as goal

abbrev pub invariant-loop-turn : goal.invariant-loop-turn
invariant-loop-turn g l = Filled32 g.S.Source.drawn l.n l.initial.next (8 * l.turn) l.next l.dest
