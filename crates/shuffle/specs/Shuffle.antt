-- `shuffle` over any sequence of words: which draws it makes, what it tells, and the list after it (document 01, "Draws", "When the unit
-- says no").
use Rattle.std.specs.Prelude.{true, cond, List, ℕ, ◌-◌, ltb, length}
use Rattle.words.specs.Refusal.{too_long}
use Rattle.words.specs.declared.outcome.Outcome.{Outcome}
use Rattle.words.specs.Draw.{Words, Drawn, all, short, draws, refused, outcome_of}
use Rattle.lists.specs.Limit.{list_limit}
use Rattle.rehearsal.specs.Bounds.{bounds_from}
use Rattle.shuffle.specs.Swap.{arranged}

-- "from the last place down to place 1, place i drawing below i + 1": below n, n - 1, .., 2 for n entries. "Lengths 0 and 1 use no word."
abbrev pub places_drawn : Words → ℕ → ℕ → Drawn
places_drawn s n budget = draws s (bounds_from n true (n - 1)) budget

-- What it tells, of n entries: a list above the limit is refused first; an answer's value is 0.
unfoldable pub shuffle_by : Words → ℕ → ℕ → Outcome
shuffle_by s n budget = cond (ltb list_limit n) (refused too_long) (outcome_of (λ places. 0) (places_drawn s n budget))

-- The list after the places drawn: where they are not all drawn, it keeps its contents.
abbrev pub list_after : List ℕ → Drawn → List ℕ
list_after l (all places n) = arranged (length l - 1) places l
list_after l (short m) = l

-- The list after it: refused, it keeps its contents.
unfoldable pub shuffled : Words → List ℕ → ℕ → List ℕ
shuffled s l budget = cond (ltb list_limit (length l)) l (list_after l (places_drawn s (length l) budget))
