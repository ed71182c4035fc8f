-- `uint_in` meets its contract: a number from 0 up to max - min, with min added.
use Rattle.std.proofs.Common.{ap, arith}
use Rattle.bounded.specs.Answers.{in_numbers}
use Rattle.bounded.specs.AnswerLaws.{refusing_answers, raised_replies}
use Rattle.spans.specs.SpanLaws.{uint_order, uint_drawn}
use Rattle.spans.proofs.uints.uint_in.Goals as goal

pub returns-then-max-min : goal.returns-then-max-min
returns-then-max-min c = refusing_answers _ _ (ap in_numbers c.refuses.ensures) (uint_order _ _ _ _ c.if-max-min.true)

pub returns : goal.returns
returns c =
    let drawn = c.spanned_in.ensures in
    rw (uint_drawn _ _ _ _ c.if-max-min.false)
    (raised_replies _ _ _ _ _ drawn.answer (λ z. omega (arith, drawn.small z, c.if-max-min.false, c.ranges.max)) c.raised.ensures)
