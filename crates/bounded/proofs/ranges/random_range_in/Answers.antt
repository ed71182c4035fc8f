-- `random_range_in` meets its contract: a draw below max - min, with min added.
use Rattle.std.proofs.Common.{ap, arith}
use Rattle.bounded.specs.Answers.{in_numbers}
use Rattle.bounded.specs.AnswerLaws.{refusing_answers, raised_replies}
use Rattle.bounded.specs.RangeLaws.{range_order, range_drawn}
use Rattle.bounded.proofs.ranges.random_range_in.Goals as goal

pub returns-then-max-min : goal.returns-then-max-min
returns-then-max-min c = refusing_answers _ _ (ap in_numbers c.refuses.ensures) (range_order _ _ _ _ c.if-max-min.true)

pub returns : goal.returns
returns c =
    let drawn = c.bounded_in.ensures in
    rw (range_drawn _ _ _ _ c.if-max-min.false)
    (raised_replies _ _ _ _ _ drawn.answer (λ z. omega (arith, drawn.small z, c.ranges.max)) c.raised.ensures)
