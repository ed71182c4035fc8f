-- `place_in` meets its contract: a draw below the length of a list that is not refused.
use Rattle.std.proofs.Common.{refl, sym, ◌∙◌, ap, arith}
use Rattle.words.specs.NumbersLaws.{number_positive}
use Rattle.bounded.specs.Answers.{in_numbers}
use Rattle.lists.specs.CheckLaws.{list_allowed_exactly_if}
use Rattle.lists.specs.Choosing.{place_by}
use Rattle.lists.specs.CheckedAnswers.{passed_answers, refused_answers}
use Rattle.lists.specs.Replies.{refusal_in}
use Rattle.lists.proofs.places.place_in.Goals as goal

pub overflow_cast-n : goal.overflow_cast-n
overflow_cast-n c = omega (arith, (list_allowed_exactly_if.0 (sym c.list_check.ensures ∙ ap refusal_in c.in-Ok.is)).1)

pub returns-in-Ok : goal.returns-in-Ok
unfolding place_by
returns-in-Ok c =
    record {
      answer = passed_answers _ (sym (ap refusal_in c.in-Ok.is) ∙ c.list_check.ensures) _ refl c.bounded_in.ensures.answer;
      within = c.bounded_in.ensures.small;
    }

pub returns-in-Err : goal.returns-in-Err
unfolding place_by
returns-in-Err c =
    let some = number_positive c.in-Err.refusal in
    let (answer, not) =
    refused_answers _ (sym (ap refusal_in c.in-Err.is) ∙ c.list_check.ensures) _ _ (λ z. omega (arith, some, z))
    (ap in_numbers c.refuses.ensures) in
    record { answer = answer; within = λ z. absurd (not z) }
