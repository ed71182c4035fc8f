-- `pseudo_in` meets its contract. The loop's invariant: it has XORed n words.
use Rattle.random.specs.Lent.{joined_with, joined_word}
use Rattle.random.specs.WordsLaws.{xored_none, xored_more}
use Rattle.random.proofs.lent.pseudo_in.Goals as goal

pub loop-n-init : goal.loop-n-init
loop-n-init c = xored_none _

pub loop-n-preserved : goal.loop-n-preserved
loop-n-preserved c =
    let loop = c.loop-n in
    let drawn = c.next_u32-d in
    xored_more _ loop._n loop.word (joined_with loop.next loop.mt) (joined_word drawn.result drawn.new.mt) loop.invariant drawn.ensures
