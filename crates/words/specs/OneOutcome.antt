-- Exactly one outcome: a draw below r, said as a relation in the order's words, has the outcome `bounded_by` and no other.
use Rattle.std.specs.Prelude.{◌≡◌, ℕ, ◌+◌, ◌<◌}
use Rattle.words.specs.Refusal.{zero_range, out_of_budget}
use Rattle.words.specs.declared.outcome.Outcome.{Outcome}
use Rattle.words.specs.Draw.{Words, quotient, refused, gives}
use Rattle.words.specs.GoodWord.{FirstGood, NoneGood}

-- Which outcomes a draw below r with this budget may have (the order, demand 3; document 01, refusals 1 and 8).
pub data Bounded (s : Words) (r budget : ℕ) : Outcome → Type 0 where
  zero_range_lem : r ≡ 0 → Bounded s r budget (refused zero_range)
  answers : (k : ℕ) → 0 < r → FirstGood s r budget k → Bounded s r budget (gives (quotient r (s k)) (k + 1))
  out_of_budget_lem : 0 < r → NoneGood s r budget → Bounded s r budget (refused out_of_budget)
