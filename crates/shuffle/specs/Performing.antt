-- The draws of a shuffle made with their swaps, as far as the words of a budget go: the whole shuffle, where its draws are settled within
-- the budget.
use Rattle.std.specs.Prelude.{true, cond, List, ℕ, ◌-◌, ltb}
use Rattle.words.specs.Draw.{Words}
use Rattle.lists.specs.Limit.{list_limit}
use Rattle.rehearsal.specs.Rehearsal.{draws_of, taken_by}
use Rattle.rehearsal.specs.Values.{values_after}
use Rattle.rehearsal.specs.declared.turns.Draws.{Draws}
use Rattle.shuffle.specs.Swap.{arranged}

-- So many draws, the first below `first` and each further one below one less.
abbrev pub draws_below : ℕ → ℕ → ℕ → Draws
draws_below first count budget = record { first = first; falls = true; count = count; budget = budget }

-- The draws of n entries: none where the list is too long.
unfoldable pub shuffle_draws : ℕ → ℕ → Draws
shuffle_draws n budget = cond (ltb list_limit n) (draws_below 0 0 budget) (draws_below n (n - 1) budget)

-- The words that draws take which go as far as their budget lets them.
abbrev pub words_performed : Words → Draws → ℕ
words_performed s d = taken_by d.budget (draws_of s d)

-- The list after the places that these words settle.
abbrev pub performed : Words → Draws → List ℕ → List ℕ
performed s d l = arranged d.count (values_after s d.first d.falls (words_performed s d)) l
