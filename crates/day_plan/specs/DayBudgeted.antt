-- "So a larger budget never changes an answer given" (the order, demand 3): the words used, the next generator and the day.
use Rattle.std.specs.Prelude.{◌≡◌, List, ℕ, ◌≤◌, length}
use Rattle.std.proofs.Common.{sym, ◌∙◌}
use Rattle.words.specs.Refusal.{answered}
use Rattle.words.specs.Draw.{Words}
use Rattle.random.specs.declared.backend.Random.{Random}
use Rattle.random.specs.Generator.{words_of}
use Rattle.bounded.specs.Answers.{answer_from}
use Rattle.bounded.specs.Budgeted.{answer_larger}
use Rattle.shuffle.specs.Shuffle.{shuffle_by}
use Rattle.shuffle.specs.ShuffleBudgeted.{shuffle_budgeted, list_larger}
use Rattle.day_plan.specs.Day.{laid_out, planned_day}
use Rattle.day_plan.specs.DayLaws.{laid_length, plan_answered}

module _ (blanks : ℕ) (l : List ℕ) (b b' : ℕ) (h : b ≤ b') where
  -- The day is the same at every larger budget,
  pub day_larger : (s : Words) → (shuffle_by s (length l) b).refusal ≡ answered → planned_day s blanks l b' ≡ planned_day s blanks l b
  day_larger s a =
      let more = (shuffle_budgeted (length l)).larger s b b' h a in
      let laid : (shuffle_by s (length (laid_out blanks (length l))) b).refusal ≡ answered = rw (laid_length blanks (length l)) a in
      plan_answered s blanks l b' (rw more a) ∙ list_larger s (laid_out blanks (length l)) b b' h laid ∙ sym (plan_answered s blanks l b a)

  -- and so is the whole answer.
  pub plan_larger : (g : Random) → (shuffle_by (words_of g) (length l) b).refusal ≡ answered
      → (answer_from g (shuffle_by (words_of g) (length l) b') ≡ answer_from g (shuffle_by (words_of g) (length l) b))
      × (planned_day (words_of g) blanks l b' ≡ planned_day (words_of g) blanks l b)
  plan_larger g a = (answer_larger (shuffle_budgeted (length l)) b b' h g a, day_larger (words_of g) a)
