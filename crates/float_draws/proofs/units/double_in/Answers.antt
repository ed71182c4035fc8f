-- `double_in` meets its contract: the double of the drawn 64-bit word, beside the generator after it.
use Rattle.float_draws.proofs.Laws.{double_in}
use Rattle.float_draws.proofs.units.double_in.Goals as goal

pub returns : goal.returns
returns c =
    let drawn = c.next_u64-d in
    rw c.double_of.ensures (double_in _ drawn.result _ drawn.ensures)
