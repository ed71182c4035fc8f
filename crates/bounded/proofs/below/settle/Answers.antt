-- `settle` meets its contract: the kinds that don't draw from the table leave it alone.
use Rattle.std.proofs.Common.{refl, sym, ◌∙◌, ap, arith}
use Rattle.bounded.specs.Answers.{in_numbers}
use Rattle.bounded.specs.AnswerLaws.{draws_zero, draws_found, draws_short}
use Rattle.random.specs.TableKept.{others_keep}
use Rattle.bounded.proofs.below.settle.Goals as goal

pub returns-then-r-eq0-clause-answer : goal.returns-then-r-eq0-clause-answer
returns-then-r-eq0-clause-answer c = (draws_zero _ _ _ (ap in_numbers c.refuses.ensures) c.if-r-eq0.true).0

pub returns-in-Some-clause-answer : goal.returns-in-Some-clause-answer
returns-in-Some-clause-answer c =
    let tried = c.draw_in-t.ensures in
    (draws_found _ _ tried.draw refl c.in-Some.is (rw c.in-Some.is at tried.small) (ap in_numbers c.gives.ensures)).0

pub returns-in-None-clause-answer : goal.returns-in-None-clause-answer
returns-in-None-clause-answer c =
    let tried = c.draw_in-t.ensures in
    let kept = others_keep _ _ _ (sym c.on_table.ensures ∙ c.if-on_table.false) tried.draw.moved in
    let some = c.if-r-eq0.false in
    rw kept (draws_short _ _ tried.draw (omega (arith, some)) c.in-None.is (ap in_numbers c.refuses-in-None.ensures)).0
