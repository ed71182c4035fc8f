-- What each public call promises of its answer and of what it is lent: the contracts of src/, by name.
use Rattle.std.specs.Prelude.{List, ◌≡◌, ℕ, length}
use Rattle.bounded.specs.Answers.{answer_from, joined_answer}
use Rattle.bounded.specs.declared.answers.Answer.{Answer}
use Rattle.random.specs.Generator.{words_of}
use Rattle.random.specs.Lent.{joined_with}
use Rattle.random.specs.declared.backend.Random.{Random}
use Rattle.random.specs.declared.engine.Engine.{Engine}
use Rattle.shuffle.specs.Shuffle.{shuffle_by}
use Rattle.day_plan.specs.Day.{planned_day}

-- The shuffle's answer, and the day after it.
abbrev pub PlanDayPromise : Random → List ℕ → ℕ → ℕ → Answer Random → List ℕ → Type 0
PlanDayPromise g day blanks budget a day' =
    (a ≡ answer_from g (shuffle_by (words_of g) (length day) budget)) × (day' ≡ planned_day (words_of g) blanks day budget)

-- The same over a lent table: of the generator that the engine and the table make.
abbrev pub PlanDayInPromise : Engine → List ℕ → List ℕ → ℕ → ℕ → Answer Engine → List ℕ → List ℕ → Type 0
PlanDayInPromise e mt day blanks budget a mt' day' = PlanDayPromise (joined_with e mt) day blanks budget (joined_answer a mt') day'
