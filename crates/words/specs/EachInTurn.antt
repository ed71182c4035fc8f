-- "A shuffle obeys this draw after draw under one budget" (the order, demand 3), read off an answered call: the draw below r, wherever it
-- stands among the bounds, was settled by the first good word past the words of the draws before it, within the budget that they left.
use Rattle.std.specs.Prelude.{◌≡◌, List, ℕ, ◌+◌, ◌-◌, length, get_or}
use Rattle.words.specs.Draw.{Words, after, quotient, all, draws}
use Rattle.words.specs.GoodWord.{FirstGood}

-- The draw below r after those below rs: what they came to, and the word that settled it.
pub record InTurn (s : Words) (rs : List ℕ) (r budget : ℕ) (vs : List ℕ) : Type 0 where
  pub earlier : List ℕ
  pub used : ℕ
  pub before : draws s rs budget ≡ all earlier used
  pub place : ℕ
  pub first : FirstGood (after used s) r (budget - used) place
  pub value : get_or vs (length rs) 0 ≡ quotient r (s (used + place))
