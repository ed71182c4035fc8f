-- `counted_in` meets its contract: an answer is counted from min, and a refusal has value 0.
use Rattle.std.proofs.Common.{refl, sym, ap, arith, w32}
use Rattle.words.specs.NumbersLaws.{number_positive}
use Rattle.signed.specs.Callers.{arg_read, result_read}
use Rattle.spans.specs.declared.counting.IntOutcome.{IntOutcome}
use Rattle.spans.specs.IntAnswers.{int_answer_in}
use Rattle.spans.specs.IntAnswerLaws.{signed_answered, signed_refused}
use Rattle.spans.specs.Spans.{counted_modulo}
use Rattle.spans.proofs.ints.counted_in.Goals as goal

pub returns-in-Ok : goal.returns-in-Ok
unfolding counted_modulo
returns-in-Ok c =
    let sum = c.wrapping_add_signed-value in
    rw (c.gives.ensures, result_read w32 sum.result sum.type_inv, sum.ensures, arg_read c.ranges.min, c.in-Ok.is)
    (ap (λ (o : IntOutcome). int_answer_in o c.args.a.next) (sym (signed_answered _ _ refl)))

pub returns-in-Err : goal.returns-in-Err
unfolding counted_modulo
returns-in-Err c =
    rw (c.refuses.ensures, c.in-Err.is)
    (ap (λ (o : IntOutcome). int_answer_in o c.args.a.next)
    (sym (signed_refused _ _ (λ z. omega (arith, number_positive c.in-Err.refusal, z)))))
