-- Where the value of an answered call lies, of every generator: a promise is all that these laws ask for, since a generator's words have 32
-- bits. A lent promise is the by-value promise of what engine and table make together, so they are laws of the lent calls too.
use Rattle.std.specs.Prelude.{◌≡◌, ℕ, ◌≤◌, ◌<◌}
use Rattle.words.specs.Refusal.{answered}
use Rattle.words.proofs.BelowItsBound.{bounded_below}
use Rattle.random.specs.declared.backend.Random.{Random}
use Rattle.random.specs.Generator.{words_of}
use Rattle.random.specs.Sizes.{words_sized}
use Rattle.bounded.specs.declared.answers.Answer.{Answer}
use Rattle.bounded.specs.Answers.{answer_from}
use Rattle.bounded.specs.Promises.{BoundedPromise, RandomRangePromise, CharPromise}
use Rattle.bounded.specs.RangeOutcomes.{range_between, char_between}

module _ {a : Answer Random} (g : Random) where
  -- `bounded`: below r (the order, demand 3)
  pub bounded_value : (r budget : ℕ) → BoundedPromise g r budget a → a.refusal ≡ answered → a.value < r
  unfolding answer_from
  bounded_value r budget p = rw p (bounded_below (words_of g) r budget (words_sized g))

  -- `random_range`: "min up to max - 1" (document 01)
  pub range_value : (min max budget : ℕ) → RandomRangePromise g min max budget a → a.refusal ≡ answered
      → (min ≤ a.value) × (a.value < max)
  unfolding answer_from
  range_value min max budget p = rw p (range_between (words_of g) min max budget (words_sized g))

  -- `char`: a small letter, 97 to 122
  pub char_value : (budget : ℕ) → CharPromise g budget a → a.refusal ≡ answered → (97 ≤ a.value) × (a.value ≤ 122)
  unfolding answer_from
  char_value budget p = rw p (char_between (words_of g) budget (words_sized g))
