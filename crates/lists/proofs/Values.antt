-- Where the place or the start of an answered call lies, of every generator: a promise is all that these laws ask for, since a generator's
-- words have 32 bits. A lent promise is the by-value promise of what engine and table make together, so they are laws of the lent calls
-- too.
use Rattle.std.specs.Prelude.{List, ◌≡◌, ℕ, ◌+◌, ◌≤◌, ◌<◌, length, get_or}
use Rattle.words.specs.Refusal.{answered}
use Rattle.random.specs.declared.backend.Random.{Random}
use Rattle.random.specs.Generator.{words_of}
use Rattle.random.specs.Sizes.{words_sized}
use Rattle.lists.specs.Choosing.{Chosen}
use Rattle.lists.specs.Slicing.{SliceStart}
use Rattle.lists.specs.Choosing.{choice_from}
use Rattle.lists.specs.Slicing.{start_of, start_from}
use Rattle.lists.specs.Promises.{ChoosePromise, RandSlicePromise}
use Rattle.lists.proofs.ChoosingOutcomes.{choose_place_below, choose_value_there}
use Rattle.lists.specs.SlicingOutcomes.{start_leaves_room}

-- `choose`: a place of the list, and the entry there (document 01, "Draws")
pub choose_value : {a : Chosen Random} (g : Random) (list : List ℕ) (budget : ℕ) → ChoosePromise g list budget a → a.refusal ≡ answered
    → (a.place < length list) × (a.value ≡ get_or list a.place 0)
unfolding choice_from
choose_value g list budget p =
    let s = words_of g in
    rw p (λ h. (choose_place_below s list budget h (words_sized g), choose_value_there s list budget h))

-- `rand_slice`: a start that leaves room for the window
pub slice_value : {a : SliceStart Random} (g : Random) (list : List ℕ) (window budget : ℕ) → RandSlicePromise g list window budget a
    → a.refusal ≡ answered → a.start + window ≤ length list
unfolding start_from start_of
slice_value g list window budget p = rw p (λ h. start_leaves_room (words_of g) (length list) window budget h (words_sized g))
