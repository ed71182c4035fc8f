-- A worked example: a day of two inlets and a blank, laid out 0, 1, 2, and shuffled with the words of document 01's example of a shuffle.
-- Three words give 2, 1, 0; with a budget of two the day stays as it came.
use Rattle.std.specs.Prelude.{◌≡◌, refl, [], ◌∷◌}
use Rattle.words.specs.Draw.{Words, listed, first, first_good, draws}
use Rattle.rehearsal.specs.Bounds.{bounds_from}
use Rattle.shuffle.specs.Swap.{swapped, arranged}
use Rattle.shuffle.specs.Shuffle.{shuffle_by, shuffled}
use Rattle.day_plan.specs.Day.{inlets_from, laid_out, planned_day}

-- the words of that example
abbrev pub given : Words
given = listed (0 ∷ 1 ∷ 0xffff_ffff ∷ [])

-- With a budget of three the day is planned.
pub three_words : planned_day given 1 (7 ∷ 7 ∷ 7 ∷ []) 3 ≡ 2 ∷ 1 ∷ 0 ∷ []
unfolding planned_day laid_out inlets_from shuffle_by shuffled draws first_good first bounds_from arranged swapped
three_words = refl

-- With a budget of two it is refused, and the list keeps its contents.
pub two_words : planned_day given 1 (7 ∷ 7 ∷ 7 ∷ []) 2 ≡ 7 ∷ 7 ∷ 7 ∷ []
unfolding planned_day laid_out inlets_from shuffle_by shuffled draws first_good first bounds_from arranged swapped
two_words = refl
