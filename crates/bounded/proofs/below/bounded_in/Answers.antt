-- `bounded_in` meets its contract: the first word where it is ready and good, and otherwise the loop on a table that is as it came.
use Rattle.std.proofs.Common.{◌∙◌, ap, arith}
use Rattle.bounded.specs.Answers.{in_numbers}
use Rattle.bounded.specs.AnswerLaws.{draws_first}
use Rattle.random.specs.ReadyLaws.{drawn_surely}
use Rattle.bounded.proofs.below.bounded_in.Goals as goal

pub returns-then-is_good : goal.returns-then-is_good
returns-then-is_good c =
    let sure = drawn_surely _ _ c.surely_ready.ensures c.if-surely_ready.true in
    let d =
    draws_first _ _ _ c.if-budget-gt0.true (c.next_ready-w.ensures ∙ sure) (omega (arith, c.next_ready-w.type_inv))
    c.is_good.ensures c.if-is_good.true c.quotient.ensures (ap in_numbers c.gives.ensures) in
    record { answer = d.0; small = d.1 }
