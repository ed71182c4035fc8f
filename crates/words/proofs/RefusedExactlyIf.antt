-- When a draw below r is refused, and with which number (document 01, "When the unit says no"): with 1 exactly if r is 0, and with 8
-- exactly if r is not 0 and none of the next B words is good.
use Rattle.std.specs.Prelude.{◌≡◌, refl, ◌↔◌, ℕ, ◌<◌}
use Rattle.std.proofs.Common.{arith}
use Rattle.words.specs.Refusal.{zero_range, out_of_budget}
use Rattle.words.specs.declared.outcome.Outcome.{Outcome}
use Rattle.words.specs.Draw.{Words, bounded_by}
use Rattle.words.specs.GoodWord.{NoneGood}
use Rattle.words.specs.OneOutcome.{Bounded, zero_range_lem, answers, out_of_budget_lem}
use Rattle.words.proofs.OneOutcome.{bounded_is}

pub zero_range_exactly_if : (s : Words) (r budget : ℕ) → ((bounded_by s r budget).refusal ≡ zero_range) ↔ (r ≡ 0)
zero_range_exactly_if s r budget = (only_if (bounded_is s r budget), exactly (bounded_is s r budget))
  where
    only_if : {o : Outcome} → Bounded s r budget o → o.refusal ≡ zero_range → r ≡ 0
    only_if (zero_range_lem z) e = z
    only_if (answers k h f) e = absurd (omega arith)
    only_if (out_of_budget_lem h f) e = absurd (omega arith)

    exactly : {o : Outcome} → Bounded s r budget o → r ≡ 0 → o.refusal ≡ zero_range
    exactly (zero_range_lem z) g = refl
    exactly (answers k h f) g = absurd (omega arith)
    exactly (out_of_budget_lem h f) g = absurd (omega arith)

pub out_of_budget_exactly_if : (s : Words) (r budget : ℕ) →
    ((bounded_by s r budget).refusal ≡ out_of_budget) ↔ ((0 < r) × NoneGood s r budget)
out_of_budget_exactly_if s r budget = (only_if (bounded_is s r budget), exactly (bounded_is s r budget))
  where
    only_if : {o : Outcome} → Bounded s r budget o → o.refusal ≡ out_of_budget → (0 < r) × NoneGood s r budget
    only_if (zero_range_lem z) e = absurd (omega arith)
    only_if (answers k h f) e = absurd (omega arith)
    only_if (out_of_budget_lem h f) e = (h, f)

    exactly : {o : Outcome} → Bounded s r budget o → (0 < r) × NoneGood s r budget → o.refusal ≡ out_of_budget
    exactly (zero_range_lem z) g = absurd (omega (arith, g.0))
    exactly (answers k h f) g = absurd (omega (arith, f.passes, g.1 k f.among))
    exactly (out_of_budget_lem h f) g = refl
