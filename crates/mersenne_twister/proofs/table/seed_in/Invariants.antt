-- `seed_in` meets its contract. The invariant: the first i words of the seed are stored, and `word` is the next.
use Rattle.std.proofs.Common.{◌≡◌}
use Rattle.mersenne_twister.specs.Sequence.{seed_word}
use Rattle.mersenne_twister.specs.Table.{stored}
use Rattle.mersenne_twister.proofs.table.seed_in.Given as goal

abbrev pub invariant-loop-i : goal.invariant-loop-i
invariant-loop-i l = (l.mt ≡ stored (seed_word l.seed) l.i l.initial.mt) × (l.word ≡ seed_word l.seed l.i)
