-- `rand_slice` meets its contract: the answer over the lent table, and the table joined to it.
use Rattle.lists.proofs.windows.rand_slice.Goals as goal

pub returns : goal.returns
returns c =
    let answer = c.rand_slice_in-a.ensures in
    record { answer = rw c.by_value.ensures (rw c.engine_of.ensures at answer.answer); room = rw c.by_value.ensures answer.room }
