-- Each promise leaves one answer: two that both meet it are equal, and so are the tables and the days that they leave. The next generator
-- is the old one after the words used.
use Rattle.std.specs.Prelude.{List, ◌≡◌, ℕ, length}
use Rattle.std.proofs.Common.{sym, ◌∙◌}
use Rattle.bounded.specs.OneAnswer.{next_after_used, answer_apart}
use Rattle.bounded.specs.declared.answers.Answer.{Answer}
use Rattle.random.specs.Generator.{later, words_of}
use Rattle.random.specs.declared.backend.Random.{Random}
use Rattle.random.specs.declared.engine.Engine.{Engine}
use Rattle.shuffle.specs.Shuffle.{shuffle_by}
use Rattle.day_plan.specs.Promises.{PlanDayInPromise, PlanDayPromise}

-- One answer and one day.
pub one_plan_day : (g : Random) (day : List ℕ) (blanks budget : ℕ) {a b : Answer Random} {day₁ day₂ : List ℕ}
    → PlanDayPromise g day blanks budget a day₁ → PlanDayPromise g day blanks budget b day₂ → (a ≡ b) × (day₁ ≡ day₂)
one_plan_day g day blanks budget p q = (p.0 ∙ sym q.0, p.1 ∙ sym q.1)

-- One answer, one table and one day.
pub one_plan_day_in : (e : Engine) (mt day : List ℕ) (blanks budget : ℕ) {a b : Answer Engine} {mt₁ mt₂ day₁ day₂ : List ℕ}
    → PlanDayInPromise e mt day blanks budget a mt₁ day₁ → PlanDayInPromise e mt day blanks budget b mt₂ day₂
    → (a ≡ b) × (mt₁ ≡ mt₂) × (day₁ ≡ day₂)
one_plan_day_in e mt day blanks budget p q =
    let (answer, table) = answer_apart (p.0 ∙ sym q.0) in
    (answer, table, p.1 ∙ sym q.1)

-- "The new generator is the old one after that many words" (document 01, "Draws").
pub plan_day_next : (g : Random) (day : List ℕ) (blanks budget : ℕ) {a : Answer Random} {day' : List ℕ}
    → PlanDayPromise g day blanks budget a day' → a.next ≡ later a.used g
plan_day_next g day blanks budget p = next_after_used g (shuffle_by (words_of g) (length day) budget) p.0
