-- "A draw below r > 0 with budget B is answered exactly if, among the generator's next B words, some word's product with r leaves at least
-- 2^32 mod r when divided by 2^32" (the order, demand 3): both directions, for any sequence of words.
use Rattle.std.specs.Prelude.{◌≡◌, refl, ◌↔◌, ℕ, ◌<◌}
use Rattle.std.proofs.Common.{arith}
use Rattle.words.specs.Refusal.{answered}
use Rattle.words.specs.declared.outcome.Outcome.{Outcome}
use Rattle.words.specs.Draw.{Words, bounded_by}
use Rattle.words.specs.GoodWord.{Passes}
use Rattle.words.specs.OneOutcome.{Bounded, zero_range_lem, answers, out_of_budget_lem}
use Rattle.words.proofs.OneOutcome.{bounded_is}

pub answered_exactly_if : (s : Words) (r budget : ℕ) → 0 < r
    → ((bounded_by s r budget).refusal ≡ answered) ↔ ((k : ℕ) × (k < budget) × Passes r (s k))
answered_exactly_if s r budget pos = (only_if (bounded_is s r budget), exactly (bounded_is s r budget))
  where
    only_if : {o : Outcome} → Bounded s r budget o → o.refusal ≡ answered → (k : ℕ) × (k < budget) × Passes r (s k)
    only_if (zero_range_lem z) e = absurd (omega arith)
    only_if (answers k h f) e = (k, f.among, f.passes)
    only_if (out_of_budget_lem h f) e = absurd (omega arith)

    exactly : {o : Outcome} → Bounded s r budget o → (k : ℕ) × (k < budget) × Passes r (s k) → o.refusal ≡ answered
    exactly (zero_range_lem z) g = absurd (omega arith)
    exactly (answers k h f) g = refl
    exactly (out_of_budget_lem h f) g = absurd (omega (arith, f g.0 g.1, g.2))
