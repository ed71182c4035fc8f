-- `raw_in` meets its contract.
use Rattle.std.proofs.Common.{ap, arith}
use Rattle.bounded.specs.Answers.{in_numbers}
use Rattle.bounded.specs.AnswerLaws.{refusing_answers}
use Rattle.spans.specs.SpanLaws.{raw_short, raw_answers}
use Rattle.spans.proofs.span.raw_in.Goals as goal

pub returns-then-budget-eq0 : goal.returns-then-budget-eq0
returns-then-budget-eq0 c = refusing_answers _ _ (ap in_numbers c.refuses.ensures) (raw_short _ _ c.if-budget-eq0.true)

pub returns : goal.returns
returns c =
    raw_answers _ _ _ (omega (arith, c.if-budget-eq0.false)) c.next_u32-w.ensures (ap in_numbers c.gives.ensures)
