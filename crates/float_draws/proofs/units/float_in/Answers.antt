-- `float_in` meets its contract: the float of the drawn word, beside the generator after it.
use Rattle.float_draws.proofs.Laws.{float_in}
use Rattle.float_draws.proofs.units.float_in.Goals as goal

pub returns : goal.returns
returns c =
    let drawn = c.next_u32-d in
    rw c.float_of.ensures (float_in _ drawn.result _ drawn.ensures)
