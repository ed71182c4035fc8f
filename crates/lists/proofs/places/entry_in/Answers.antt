-- `entry_in` meets its contract: the entry at the place, where one was drawn.
use Rattle.std.proofs.Common.{refl, arith}
use Rattle.words.specs.NumbersLaws.{number_positive}
use Rattle.lists.specs.ChoosingLaws.{entry_there, entry_refused}
use Rattle.lists.proofs.places.entry_in.Goals as goal

pub returns-in-Ok : goal.returns-in-Ok
returns-in-Ok c = rw (c.gives.ensures, c.in-Ok.is) (entry_there _ _ refl, refl)

pub returns-in-Err : goal.returns-in-Err
returns-in-Err c =
    let some = number_positive c.in-Err.refusal in
    rw (c.refuses.ensures, c.in-Err.is) (entry_refused _ _ (λ z. omega (arith, some, z)), refl)
