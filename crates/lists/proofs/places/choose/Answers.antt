-- `choose` meets its contract: the answer over the lent table, and the table joined to it.
use Rattle.lists.proofs.places.choose.Goals as goal

pub returns : goal.returns
returns c =
    let answer = c.choose_in-a.ensures in
    record { answer = rw c.by_value.ensures (rw c.engine_of.ensures at answer.answer); within = rw c.by_value.ensures answer.within }
