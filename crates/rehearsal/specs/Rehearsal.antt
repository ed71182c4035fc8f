-- So many draws under one budget over any sequence of words, and what a rehearsal of them says: the words they use, where all are settled
-- within the budget, and how many are settled.
use Rattle.std.specs.Prelude.{ℕ, Option, Some, None, length}
use Rattle.words.specs.Draw.{Words, Drawn, all, short, draws}
use Rattle.rehearsal.specs.Bounds.{bounds_from}
use Rattle.rehearsal.specs.declared.rehearsing.Rehearsed.{Rehearsed}
use Rattle.rehearsal.specs.declared.turns.Draws.{Draws}

-- The draws, "draw after draw under one budget" (the order, demand 3).
abbrev pub draws_of : Words → Draws → Drawn
draws_of s d = draws s (bounds_from d.first d.falls d.count) d.budget

-- What a rehearsal says, of its two parts.
abbrev pub tell : Option ℕ → ℕ → Rehearsed
tell used settled = record { used = used; settled = settled }

-- What a rehearsal says of them.
abbrev pub rehearsed_of : Drawn → Rehearsed
rehearsed_of (all vs n) = tell (Some n) (length vs)
rehearsed_of (short m) = tell None m

-- The words that draws take which go as far as the budget lets them: those of all draws, or the whole budget.
abbrev pub taken_by : ℕ → Drawn → ℕ
taken_by budget (all vs n) = n
taken_by budget (short m) = budget
