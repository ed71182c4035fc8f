-- `number_in` meets its contract: a draw below what is left of the list, where neither list nor window is refused.
use Rattle.std.proofs.Common.{refl, sym, ◌∙◌, ap, arith}
use Rattle.words.specs.NumbersLaws.{number_positive}
use Rattle.bounded.specs.Answers.{in_numbers}
use Rattle.lists.specs.CheckLaws.{slice_allowed_exactly_if}
use Rattle.lists.specs.Slicing.{slice_by}
use Rattle.lists.specs.CheckedAnswers.{passed_answers, refused_answers}
use Rattle.lists.specs.Replies.{refusal_in}
use Rattle.lists.proofs.windows.number_in.Goals as goal

pub overflow_sub-n : goal.overflow_sub-n
overflow_sub-n c =
    ((slice_allowed_exactly_if _ _).0 (sym c.slice_check.ensures ∙ ap refusal_in c.in-Ok.is)).2

pub overflow_add-n : goal.overflow_add-n
overflow_add-n c =
    omega (arith, ((slice_allowed_exactly_if _ _).0 (sym c.slice_check.ensures ∙ ap refusal_in c.in-Ok.is)).0)

pub overflow_cast-n : goal.overflow_cast-n
overflow_cast-n c =
    let (limit, some, room) = (slice_allowed_exactly_if _ _).0 (sym c.slice_check.ensures ∙ ap refusal_in c.in-Ok.is) in
    omega arith

pub returns-in-Ok : goal.returns-in-Ok
unfolding slice_by
returns-in-Ok c =
    let (limit, some, room) = (slice_allowed_exactly_if _ _).0 (sym c.slice_check.ensures ∙ ap refusal_in c.in-Ok.is) in
    let d = c.bounded_in.ensures in
    record {
      answer = passed_answers _ (sym (ap refusal_in c.in-Ok.is) ∙ c.slice_check.ensures) _ refl d.answer;
      room = λ z. omega (arith, d.small z, room);
    }

pub returns-in-Err : goal.returns-in-Err
unfolding slice_by
returns-in-Err c =
    let some = number_positive c.in-Err.refusal in
    let (answer, not) =
    refused_answers _ (sym (ap refusal_in c.in-Err.is) ∙ c.slice_check.ensures) _ _ (λ z. omega (arith, some, z))
    (ap in_numbers c.refuses.ensures) in
    record { answer = answer; room = λ z. absurd (not z) }
