-- Draws that are a draw below a bound with a number added (document 01, "Draws"), over any sequence of words.
use Rattle.std.specs.Prelude.{cond, ℕ, ◌-◌, leb}
use Rattle.words.specs.Refusal.{order}
use Rattle.words.specs.declared.outcome.Outcome.{Outcome}
use Rattle.words.specs.Draw.{Words, refused, bounded_by}
use Rattle.words.specs.Outcomes.{raised}

-- `random_range`: "min up to max - 1"; "min >= max" is refused
unfoldable pub range_by : Words → ℕ → ℕ → ℕ → Outcome
range_by s min max budget = cond (leb max min) (refused order) (raised min (bounded_by s (max - min) budget))

-- `char`: "bounded by 26, plus 97, the letter's ASCII code"
unfoldable pub char_by : Words → ℕ → Outcome
char_by s budget = raised 97 (bounded_by s 26 budget)
