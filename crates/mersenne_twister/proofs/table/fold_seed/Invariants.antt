-- `fold_seed` meets its contract. The invariant: the first k words are XORed.
use Rattle.std.proofs.Common.{◌≡◌}
use Rattle.mersenne_twister.specs.Table.{words_xored}
use Rattle.mersenne_twister.proofs.table.fold_seed.Given as goal

abbrev pub invariant-loop-k : goal.invariant-loop-k
invariant-loop-k l = l.word ≡ words_xored l.k l.seed
