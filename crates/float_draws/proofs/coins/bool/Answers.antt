-- `bool` meets its contract: what is drawn over the lent table is the generator's.
use Rattle.std.proofs.Common.{◌∙◌}
use Rattle.float_draws.proofs.Laws.{flip_joined}
use Rattle.float_draws.proofs.coins.bool.Goals as goal

pub returns : goal.returns
returns c =
    let told = rw c.engine_of.ensures at c.bool_in-a.ensures in
    rw c.with_table.ensures (flip_joined c.bool_in-a.result _ ∙ told)
