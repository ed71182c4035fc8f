-- "So a larger budget never changes an answer given" (the order, demand 3), of the shuffle: its value, its words used, the next generator
-- and the list.
use Rattle.std.specs.Prelude.{◌≡◌, refl, Bool, true, false, cond, List, ℕ, ◌-◌, ◌≤◌, ltb, length}
use Rattle.std.proofs.Common.{ap, arith}
use Rattle.words.specs.Refusal.{answered, too_long}
use Rattle.words.specs.Draw.{Words, refused, outcome_of}
use Rattle.words.proofs.LargerBudget.{call_larger}
use Rattle.random.specs.declared.backend.Random.{Random}
use Rattle.random.specs.Generator.{words_of}
use Rattle.bounded.specs.Answers.{answer_from}
use Rattle.bounded.specs.Budgeted.{Budgeted, checked_budgeted, draws_budgeted, answer_larger}
use Rattle.lists.specs.Limit.{list_limit}
use Rattle.rehearsal.specs.Bounds.{bounds_from}
use Rattle.shuffle.specs.Shuffle.{places_drawn, shuffle_by, list_after, shuffled}

-- The shuffle of n entries is a call that works its value out of draws.
pub shuffle_budgeted : (n : ℕ) → Budgeted (λ s b. shuffle_by s n b)
unfolding shuffle_by
shuffle_budgeted n =
    checked_budgeted (ltb list_limit n) too_long (λ e. omega arith) (draws_budgeted (λ places. 0) (bounds_from n true (n - 1)))

-- The list too
pub list_larger : (s : Words) (l : List ℕ) (b b' : ℕ) → b ≤ b' → (shuffle_by s (length l) b).refusal ≡ answered
    → shuffled s l b' ≡ shuffled s l b
unfolding shuffle_by shuffled
list_larger s l b b' h = go (ltb list_limit (length l))
  where
    go : (long : Bool) → (cond long (refused too_long) (outcome_of (λ places. 0) (places_drawn s (length l) b))).refusal ≡ answered
        → cond long l (list_after l (places_drawn s (length l) b')) ≡ cond long l (list_after l (places_drawn s (length l) b))
    go true a = refl
    go false a = ap (list_after l) (call_larger (λ places. 0) s (bounds_from (length l) true (length l - 1)) b b' h a)

-- and so the whole answer.
module _ (l : List ℕ) (b b' : ℕ) (h : b ≤ b') where
  -- Where it is answered with the smaller budget, the larger one gives that answer and that list.
  pub shuffle_larger : (g : Random) → (shuffle_by (words_of g) (length l) b).refusal ≡ answered
      → (answer_from g (shuffle_by (words_of g) (length l) b') ≡ answer_from g (shuffle_by (words_of g) (length l) b))
      × (shuffled (words_of g) l b' ≡ shuffled (words_of g) l b)
  shuffle_larger g a = (answer_larger (shuffle_budgeted (length l)) b b' h g a, list_larger (words_of g) l b b' h a)
