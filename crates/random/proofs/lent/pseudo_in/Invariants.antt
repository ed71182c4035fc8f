-- `pseudo_in` meets its contract. The loop's invariant: it has XORed n words.
use Rattle.random.specs.Lent.{joined_with}
use Rattle.random.specs.WordsLaws.{Xored}
use Rattle.random.proofs.lent.pseudo_in.Given as goal

abbrev pub invariant-loop-n : goal.invariant-loop-n
invariant-loop-n l = Xored (joined_with l.initial.next l.initial.mt) l._n l.word (joined_with l.next l.mt)
