-- Two places of a list swapped, and the list after given places: `shuffle`'s swaps (document 01, "Draws"). Nothing here knows who gives the
-- places.
use Rattle.std.specs.Prelude.{cond, ◌&&◌, List, [], ◌∷◌, ℕ, ◌-◌, ltb, length, get_or, set}

-- the entries at i and j change places; where one of them is past the end the list stays
unfoldable pub swapped : List ℕ → ℕ → ℕ → List ℕ
swapped l i j = cond (ltb i (length l) && ltb j (length l)) (set (set l i (get_or l j 0)) j (get_or l i 0)) l

-- "from the last place down": the place i is swapped with the first of the given places, i - 1 with the second, and so on
unfoldable pub arranged : ℕ → List ℕ → List ℕ → List ℕ
arranged i [] l = l
arranged i (j ∷ js) l = arranged (i - 1) js (swapped l i j)
