-- `interval_refusal` meets its contract: each way out is the refusal of the tests that led there.
use Rattle.std.proofs.Common.{sym, ◌∙◌}
use Rattle.floats.proofs.IntervalLaws.{ends_refused, order_refused, width_refused, accepted}
use Rattle.floats.proofs.intervals.interval_refusal.Goals as goal

pub returns-then-not-ends_are_finite : goal.returns-then-not-ends_are_finite
returns-then-not-ends_are_finite c = sym (ends_refused _ (sym c.ends_are_finite.ensures ∙ c.if-not-ends_are_finite.true))

pub returns-then-is_out_of_order : goal.returns-then-is_out_of_order
returns-then-is_out_of_order c =
    let finite_ends = sym c.ends_are_finite.ensures ∙ c.if-not-ends_are_finite.false in
    sym (order_refused _ finite_ends (sym c.is_out_of_order.ensures ∙ c.if-is_out_of_order.true))

pub returns-then-is_finite : goal.returns-then-is_finite
returns-then-is_finite c =
    let finite_ends = sym c.ends_are_finite.ensures ∙ c.if-not-ends_are_finite.false in
    let in_order = sym c.is_out_of_order.ensures ∙ c.if-is_out_of_order.false in
    sym (accepted _ finite_ends in_order (sym c.is_finite.ensures ∙ c.if-is_finite.true))

pub returns-else-is_finite : goal.returns-else-is_finite
returns-else-is_finite c =
    let finite_ends = sym c.ends_are_finite.ensures ∙ c.if-not-ends_are_finite.false in
    let in_order = sym c.is_out_of_order.ensures ∙ c.if-is_out_of_order.false in
    sym (width_refused _ finite_ends in_order (sym c.is_finite.ensures ∙ c.if-is_finite.false))
