-- The rows of document 01's bench examples, those marked *, that shuffle a list with given words: one table, for the single table of all of
-- them.
use Rattle.std.specs.Prelude.{refl, List, [], ◌∷◌, ℕ, length}
use Rattle.words.specs.Refusal.{out_of_budget}
use Rattle.words.specs.declared.outcome.Outcome.{Outcome}
use Rattle.words.specs.Draw.{listed, first, first_good, gives, refused, draws}
use Rattle.words.specs.Table.{Row, Holds, end, ◌&◌}
use Rattle.rehearsal.specs.Bounds.{bounds_from}
use Rattle.shuffle.specs.Swap.{swapped, arranged}
use Rattle.shuffle.specs.Shuffle.{shuffle_by, shuffled}

-- what a shuffle tells, and the list after it
pub record Whole : Type 0 where
  pub outcome : Outcome
  pub list : List ℕ

-- a row: the list, the words, the budget, and what the shuffle tells and leaves
abbrev pub shuffling : List ℕ → List ℕ → ℕ → Outcome → List ℕ → Row
shuffling l words budget outcome list = record {
  Kind = Whole;
  gives = record { outcome = shuffle_by (listed words) (length l) budget; list = shuffled (listed words) l budget };
  says = record { outcome = outcome; list = list };
}

-- the rows of the shuffle
abbrev pub bench : List Row
bench =
    -- [10, 20, 30] shuffled with 0, 1, 0xFFFFFFFF gives [30, 20, 10], 3 words used; budget 2 refuses and the list stays
    shuffling (10 ∷ 20 ∷ 30 ∷ []) (0 ∷ 1 ∷ 0xffff_ffff ∷ []) 3 (gives 0 3) (30 ∷ 20 ∷ 10 ∷ [])
    ∷ shuffling (10 ∷ 20 ∷ 30 ∷ []) (0 ∷ 1 ∷ 0xffff_ffff ∷ []) 2 (refused out_of_budget) (10 ∷ 20 ∷ 30 ∷ [])
    ∷ []

-- Each row holds, by computation.
pub bench_holds : Holds bench
unfolding shuffle_by shuffled draws first_good first bounds_from arranged swapped
bench_holds = refl & refl & end
