-- `plan_day_in` meets its contract: what the shuffle comes to is known before a slot is touched, on a table that is as it came.
use Rattle.std.proofs.Common.{refl, sym, ◌∙◌, ap, arith}
use Rattle.words.specs.NumbersLaws.{number_positive}
use Rattle.shuffle.specs.Replies.{done, done_in_numbers}
use Rattle.day_plan.specs.DayAnswers.{answered_fits, planned_refused, planned_all}
use Rattle.day_plan.proofs.day.plan_day_in.Goals as goal

pub lay_out-requires : goal.lay_out-requires
lay_out-requires c = answered_fits _ _ _ (sym (ap done c.in-Ok.is) ∙ c.outcome_in.ensures.outcome) refl

pub returns-in-Ok : goal.returns-in-Ok
returns-in-Ok c =
    let told = sym (ap done c.in-Ok.is) ∙ c.outcome_in.ensures.outcome in
    let swapped = rw c.outcome_in.ensures.table at c.perform_in.ensures in
    planned_all _ _ _ _ _ told refl c.lay_out.ensures swapped (ap done_in_numbers c.gives.ensures)

pub returns-in-Err : goal.returns-in-Err
returns-in-Err c =
    let told = sym (ap done c.in-Err.is) ∙ c.outcome_in.ensures.outcome in
    let some = number_positive c.in-Err.refusal in
    rw c.outcome_in.ensures.table (planned_refused _ _ _ _ _ told (λ z. omega (arith, some, z)) (ap done_in_numbers c.refuses.ensures))
