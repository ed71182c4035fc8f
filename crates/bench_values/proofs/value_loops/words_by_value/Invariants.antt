-- `words_by_value` meets its contract. The loop's invariant: it has XORed i words.
use Rattle.random.specs.WordsLaws.{Xored}
use Rattle.bench_values.proofs.value_loops.words_by_value.Given as goal

abbrev pub invariant-loop-i : goal.invariant-loop-i
invariant-loop-i l = Xored l.initial.next l._i l.word l.next
