-- `spanned_in` meets its contract.
use Rattle.std.proofs.Common.{sym, ◌∙◌, ap}
use Rattle.bounded.specs.Answers.{answer_from}
use Rattle.spans.specs.SpanLaws.{span_whole, span_part}
use Rattle.spans.proofs.span.spanned_in.Goals as goal

pub returns-then-last-eq4294967295-clause-answer : goal.returns-then-last-eq4294967295-clause-answer
returns-then-last-eq4294967295-clause-answer c =
    c.raw_in.ensures ∙ ap (answer_from _) (sym (span_whole _ _ _ c.if-last-eq4294967295.true))

pub returns-clause-answer : goal.returns-clause-answer
returns-clause-answer c =
    let part = span_part _ _ _ c.if-last-eq0.false c.if-last-eq4294967295.false in
    c.bounded_in.ensures.answer ∙ ap (answer_from _) (sym part)
