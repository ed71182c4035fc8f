-- `settle_on_copy` meets its contract: the copy is written back where the draw was settled, and there alone.
use Rattle.std.proofs.Common.{refl, ap}
use Rattle.bounded.specs.Answers.{in_numbers}
use Rattle.bounded.specs.AnswerLaws.{draws_found, draws_short}
use Rattle.bounded.proofs.below.settle_on_copy.Goals as goal

pub returns-clause-answer : goal.returns-clause-answer
returns-clause-answer c =
    let tried = c.draw_in-t.ensures in
    (draws_found _ _ tried.draw refl c.in-Some.is (rw c.in-Some.is at tried.small) (ap in_numbers c.gives.ensures)).0

pub returns-in_default-clause-answer : goal.returns-in_default-clause-answer
returns-in_default-clause-answer c =
    (draws_short _ _ c.draw_in-t.ensures.draw c.requires c.in_default.is (ap in_numbers c.refuses.ensures)).0
