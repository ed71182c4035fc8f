-- Where the value of an answered call lies, of every generator: a promise is all that these laws ask for, since a generator's words have 32
-- bits. A lent promise is the by-value promise of what engine and table make together, so they are laws of the lent calls too.
use Rattle.std.specs.Prelude.{◌≡◌, ℕ, ◌≤◌, ℤ, ◌≤ℤ◌}
use Rattle.words.specs.Refusal.{answered}
use Rattle.random.specs.declared.backend.Random.{Random}
use Rattle.random.specs.Generator.{words_of}
use Rattle.random.specs.Sizes.{words_sized}
use Rattle.bounded.specs.declared.answers.Answer.{Answer}
use Rattle.bounded.specs.Answers.{answer_from}
use Rattle.spans.specs.IntAnswers.{IntAnswer}
use Rattle.spans.specs.IntAnswers.{int_answer_from}
use Rattle.spans.specs.Promises.{UintPromise, IntPromise}
use Rattle.spans.specs.SpanOutcomes.{uint_between, int_between}

-- `uint`: from min up to max (document 01, "Draws")
pub uint_value : {a : Answer Random} (g : Random) (min max budget : ℕ) → UintPromise g min max budget a → a.refusal ≡ answered
    → (min ≤ a.value) × (a.value ≤ max)
unfolding answer_from
uint_value g min max budget p = rw p (uint_between (words_of g) min max budget (words_sized g))

-- `int`, and `range` by its other name: from min up to max
pub int_value : {a : IntAnswer Random} (g : Random) (min max : ℤ) (budget : ℕ) → IntPromise g min max budget a → a.refusal ≡ answered
    → (min ≤ℤ a.value) × (a.value ≤ℤ max)
unfolding int_answer_from
int_value g min max budget p = rw p (int_between (words_of g) min max budget (words_sized g))
