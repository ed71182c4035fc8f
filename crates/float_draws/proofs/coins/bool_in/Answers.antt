-- `bool_in` meets its contract: p is asked first; taken, the coin of the drawn word, and refused, nothing drawn.
use Rattle.std.proofs.Common.{◌∙◌, sym}
use Rattle.float_draws.proofs.Laws.{flip_tossed, flip_refused}
use Rattle.float_draws.proofs.coins.bool_in.Goals as goal

pub returns-in-Ok : goal.returns-in-Ok
returns-in-Ok c =
    let taken = sym c.is_chance.ensures ∙ c.if-is_chance.true in
    rw (c.gives.ensures, c.steps-used.ensures) (flip_tossed _ _ taken c.next_u64-d.result _ c.next_u64-d.ensures c.in-Ok.ensures)

pub returns : goal.returns
returns c = rw c.refuses-2.ensures (flip_refused _ _ (sym c.is_chance.ensures ∙ c.if-is_chance.false))
