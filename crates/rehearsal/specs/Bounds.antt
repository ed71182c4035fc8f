-- The bounds of so many draws, one after the other: each the same, or each one less than the one before it.
use Rattle.std.specs.Prelude.{Bool, true, false, List, [], ◌∷◌, ℕ, zero, suc, ◌-◌}

-- The bound after k draws, the first below `first`, where the bounds fall or stay. Below 0 there is none: it stays 0, and a draw below 0 is
-- never settled.
abbrev pub bound_after : Bool → ℕ → ℕ → ℕ
bound_after true first k = first - k
bound_after false first k = first

-- So many bounds, the first of them r.
unfoldable pub bounds_from : ℕ → Bool → ℕ → List ℕ
bounds_from r falls zero = []
bounds_from r falls (suc n) = r ∷ bounds_from (bound_after falls r 1) falls n
