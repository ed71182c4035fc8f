-- `int_in` meets its contract: a number from 0 up to max - min, counted from min.
use Rattle.signed.specs.Callers.{arg_read, test_read, span_read}
use Rattle.spans.specs.IntAnswerLaws.{counted_refused, counted_answers}
use Rattle.spans.specs.SpanLaws.{int_order, int_drawn}
use Rattle.spans.proofs.ints.int_in.Goals as goal

pub returns-then-max-min : goal.returns-then-max-min
returns-then-max-min c =
    let f = c.ranges in
    rw (int_order _ _ _ _ (test_read f.min f.max c.if-max-min.true)) (counted_refused _ _ _ c.refuses.ensures)

pub returns : goal.returns
returns c =
    let f = c.ranges in
    let span = span_read f.min f.max c.span_of.ensures in
    let answer = rw span at c.spanned_in-a.ensures in
    rw (int_drawn _ _ _ _ (test_read f.min f.max c.if-max-min.false))
    (counted_answers _ _ _ _ f.min f.max answer.answer answer.small (rw (arg_read f.min) at c.counted_in.ensures))
