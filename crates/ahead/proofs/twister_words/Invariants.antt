-- `twister_words` meets its contract: the invariant is that a word is put for each entry passed.
use Rattle.ahead.specs.Ahead.{TwisterPut}
use Rattle.ahead.proofs.twister_words.Given as goal

abbrev pub invariant-loop-slot : goal.invariant-loop-slot
invariant-loop-slot l = TwisterPut l.initial.mt l.initial.at l.slot-index l.initial.list l.list l.mt l.at
