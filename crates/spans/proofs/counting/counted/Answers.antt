-- `counted` meets its contract: an answer is counted from min, and a refusal has value 0.
use mathlib.Core.Path.{sym}
use mir.Syntax.{w32}
use Rattle.signed.specs.Callers.{arg_read, result_read}
use Rattle.spans.specs.Spans.{counted_modulo}
use Rattle.spans.specs.IntAnswerLaws.{signed_answered, signed_refused}
use Rattle.spans.proofs.counting.counted.Goals as goal

pub returns-then-o-eq-ANSWERED : goal.returns-then-o-eq-ANSWERED
unfolding counted_modulo
returns-then-o-eq-ANSWERED c =
    let sum = c.wrapping_add_signed-value in
    rw (result_read w32 sum.result sum.type_inv, sum.ensures, arg_read c.ranges.min)
    (sym (signed_answered _ _ c.if-o-eq-ANSWERED.true))

pub returns : goal.returns
unfolding counted_modulo
returns c = sym (signed_refused _ _ c.if-o-eq-ANSWERED.false)
