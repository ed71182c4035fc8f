-- `source_words` meets its contract: the invariant is that a word is put for each entry passed.
use Rattle.ahead.specs.Ahead.{SourcePut}
use Rattle.ahead.proofs.source_words.Given as goal

abbrev pub invariant-loop-slot : goal.invariant-loop-slot
invariant-loop-slot g l = SourcePut g.S.Source.drawn l.initial.next l.slot-index l.initial.list l.list l.next
