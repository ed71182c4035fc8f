-- `words_of_twister` meets its contract: each turn writes one word more.
use Rattle.std.proofs.Common.{◌*◌}
use Rattle.mersenne_twister.specs.Table.{held}
use Rattle.filling.specs.FillKinds.{twister_word, twister_next}
use Rattle.filling.specs.FillLoop.{Filling}
use Rattle.filling.proofs.fill.words_of_twister.Given as goal

abbrev pub invariant-loop-turn : goal.invariant-loop-turn
invariant-loop-turn l = Filling twister_word twister_next 4 (held l.initial.mt l.initial.at) l.n (4 * l.turn) (held l.mt l.at) l.dest
