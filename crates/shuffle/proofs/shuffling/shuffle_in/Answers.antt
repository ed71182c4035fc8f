-- `shuffle_in` meets its contract: what it comes to is known before an entry is touched.
use Rattle.std.proofs.Common.{refl, sym, ◌∙◌, ap, arith}
use Rattle.words.specs.NumbersLaws.{number_positive}
use Rattle.shuffle.specs.Replies.{done, done_in_numbers}
use Rattle.shuffle.specs.ShuffleAnswers.{shuffled_refused, shuffled_all}
use Rattle.shuffle.proofs.shuffling.shuffle_in.Goals as goal

pub returns-in-Ok : goal.returns-in-Ok
returns-in-Ok c =
    let told = sym (ap done c.in-Ok.is) ∙ c.outcome_in.ensures.outcome in
    let swapped = rw c.outcome_in.ensures.table at c.perform_in.ensures in
    shuffled_all _ _ _ _ told refl swapped (ap done_in_numbers c.gives.ensures)

pub returns-in-Err : goal.returns-in-Err
returns-in-Err c =
    let told = sym (ap done c.in-Err.is) ∙ c.outcome_in.ensures.outcome in
    let some = number_positive c.in-Err.refusal in
    rw c.outcome_in.ensures.table (shuffled_refused _ _ _ _ told (λ z. omega (arith, some, z)) (ap done_in_numbers c.refuses.ensures))
