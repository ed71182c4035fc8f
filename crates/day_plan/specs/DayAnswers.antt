-- What the plan of a day over a lent table owes, by its ways out: the shuffle's, of the day laid out.
use Rattle.std.specs.Prelude.{◌≡◌, List, ℕ, ◌≤◌, length}
use Rattle.std.proofs.Common.{sym, ◌∙◌, ap}
use Rattle.words.specs.Refusal.{answered}
use Rattle.words.specs.declared.outcome.Outcome.{Outcome}
use Rattle.words.specs.Draw.{Words}
use Rattle.random.specs.declared.engine.Engine.{Engine}
use Rattle.random.specs.Generator.{words_of}
use Rattle.random.specs.Lent.{joined_with}
use Rattle.bounded.specs.declared.answers.Answer.{Answer}
use Rattle.bounded.specs.Answers.{answer_in}
use Rattle.lists.specs.Limit.{list_limit}
use Rattle.shuffle.specs.OneShuffle.{answered_exactly_if}
use Rattle.shuffle.specs.Promises.{OutcomeInPromise, PerformInPromise}
use Rattle.shuffle.specs.Shuffle.{shuffle_by}
use Rattle.shuffle.specs.ShuffleAnswers.{shuffled_refused, shuffled_all}
use Rattle.day_plan.specs.Day.{laid_out}
use Rattle.day_plan.specs.DayLaws.{laid_length, plan_answered, plan_refused}
use Rattle.day_plan.specs.Promises.{PlanDayInPromise}

-- only a day within the limit is laid out
pub answered_fits : {o : Outcome} (s : Words) (n budget : ℕ) → o ≡ shuffle_by s n budget → o.refusal ≡ answered → n ≤ list_limit
answered_fits s n budget told z = ((answered_exactly_if s n budget).0 (sym (ap (λ (x : Outcome). x.refusal) told) ∙ z)).0

module _ {o : Outcome} (e : Engine) (mt day : List ℕ) (blanks budget : ℕ) (told : OutcomeInPromise e mt (length day) budget o) where
  refusal_told : (shuffle_by (words_of (joined_with e mt)) (length day) budget).refusal ≡ o.refusal
  refusal_told = sym (ap (λ (x : Outcome). x.refusal) told)

  -- The plan is refused, and nothing has changed;
  pub planned_refused : {a : Answer Engine} → (o.refusal ≡ answered → ⊥) → a ≡ answer_in o e
      → PlanDayInPromise e mt day blanks budget a mt day
  planned_refused n p =
      let whole = shuffled_refused e mt day budget told n p in
      (whole.0, sym (plan_refused (words_of (joined_with e mt)) blanks day budget (λ z. n (sym refusal_told ∙ z))))

  -- or the day is laid out, and its shuffle performed.
  pub planned_all : {a : Answer Engine} {laid mt' day' : List ℕ} {next : Engine}
      → o.refusal ≡ answered → laid ≡ laid_out blanks (length day)
      → PerformInPromise e mt laid budget next mt' day' → a ≡ answer_in o next → PlanDayInPromise e mt day blanks budget a mt' day'
  planned_all {laid = laid} z f p q =
      let same : length laid ≡ length day = ap length f ∙ laid_length blanks (length day) in
      let (answer, list) = shuffled_all e mt laid budget (rw same told) z p q in
      (rw same at answer, rw f at list ∙ sym (plan_answered (words_of (joined_with e mt)) blanks day budget (refusal_told ∙ z)))
