-- "The answer is the quotient for the first such word, and the generator stands just past it" (the order, demand 3): the words used are
-- the place, counted from 1, of the first good word.
use Rattle.std.specs.Prelude.{◌≡◌, refl, ℕ, ◌+◌, ◌*◌, ◌/◌, ◌^◌}
use Rattle.std.proofs.Common.{arith}
use Rattle.words.specs.Refusal.{answered}
use Rattle.words.specs.declared.outcome.Outcome.{Outcome}
use Rattle.words.specs.Draw.{Words, gives, bounded_by}
use Rattle.words.specs.GoodWord.{FirstGood}
use Rattle.words.proofs.GoodWord.{passes_positive}
use Rattle.words.specs.OneOutcome.{Bounded, zero_range_lem, answers, out_of_budget_lem}
use Rattle.words.proofs.OneOutcome.{bounded_is, bounded_only}

-- an answer is that of the first good word,
pub answer_is_first : (s : Words) (r budget : ℕ) → (bounded_by s r budget).refusal ≡ answered
    → (k : ℕ) × FirstGood s r budget k × (bounded_by s r budget ≡ gives ((s k * r) / 2 ^ 32) (k + 1))
answer_is_first s r budget = go (bounded_is s r budget) refl
  where
    go : {o : Outcome} → Bounded s r budget o → bounded_by s r budget ≡ o → o.refusal ≡ answered
        → (k : ℕ) × FirstGood s r budget k × (bounded_by s r budget ≡ gives ((s k * r) / 2 ^ 32) (k + 1))
    go (zero_range_lem z) e a = absurd (omega arith)
    go (answers k h f) e a = (k, f, e)
    go (out_of_budget_lem h f) e a = absurd (omega arith)

-- and the first good word gives its answer.
pub first_is_answer : (s : Words) (r budget k : ℕ) → FirstGood s r budget k → bounded_by s r budget ≡ gives ((s k * r) / 2 ^ 32) (k + 1)
first_is_answer s r budget k f = bounded_only s r budget (answers k (passes_positive r (s k) f.passes) f)
