-- `words_of_64` meets its contract: each turn writes two words more, and one may be left after the last.
use Rattle.std.proofs.Common.{◌*◌}
use Rattle.filling.specs.FillKinds.{Filled64}
use Rattle.filling.proofs.fill.words_of_64.Given as goal

abbrev pub invariant-loop-turn : goal.invariant-loop-turn
invariant-loop-turn g l = Filled64 g.S.Source.drawn64 l.n l.initial.next (16 * l.turn) l.next l.dest
