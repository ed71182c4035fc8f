-- For code that draws below r from any source of words, one word after the other: what holds while no word was good (`Searching`), and what
-- such a draw tells at its end (`Told`), with one law for each way through the loop.
use Rattle.std.specs.Prelude.{◌≡◌, Bool, true, false, cond, ℕ, ◌+◌, ◌≤◌, eqb}
use Rattle.words.specs.Draw.{Words, quotient, Found, at, nowhere, first_good}
use Rattle.words.specs.GoodWord.{NoneGood}

-- What is told of a draw: whether a word settled it,
abbrev pub found_of : Found → Bool
found_of (at k) = true
found_of nowhere = false

-- its value, 0 where no word settled it,
abbrev pub value_of : Words → ℕ → Found → ℕ
value_of s r (at k) = quotient r (s k)
value_of s r nowhere = 0

-- and the words taken: up to the good one, or else the whole budget (none where r is 0, for which no word is good).
abbrev pub taken_of : ℕ → ℕ → Found → ℕ
taken_of r budget (at k) = k + 1
taken_of r budget nowhere = cond (eqb r 0) 0 budget

-- b, v and n are these three.
pub record Told (s : Words) (r budget : ℕ) (b : Bool) (v n : ℕ) : Type 0 where
  pub found : b ≡ found_of (first_good s r budget)
  pub value : v ≡ value_of s r (first_good s r budget)
  pub taken : n ≡ taken_of r budget (first_good s r budget)

-- None of the `used` words so far was good, and the budget allows them.
pub record Searching (s : Words) (r budget used : ℕ) : Type 0 where
  pub within_budget : used ≤ budget
  pub none_yet : NoneGood s r used
