-- `settled_words` meets its contract: the words put into the list, and the draws that a list of words settles.
use Rattle.rehearsal.specs.TurnLaws.{words_settled}
use Rattle.rehearsal.proofs.turns.settled_words.Goals as goal

pub returns : goal.returns
returns c =
    words_settled _ _ c.words_in-next.ensures.0 c.words_in-next.ensures.1 c.settle-count.ensures
