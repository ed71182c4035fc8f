-- What words come to, one after the other, where draws are made below one bound after the other: the values that the first n of them
-- settle. Nothing here knows what gives the words, and no budget is asked for.
use Rattle.std.specs.Prelude.{Bool, cond, List, [], ◌∷◌, ◌++◌, ℕ, zero, suc, length}
use Rattle.words.specs.Draw.{Words, good, quotient}
use Rattle.rehearsal.specs.Bounds.{bound_after}

-- What one word settles of a draw below r: its quotient where it is good, and nothing where it is not.
abbrev pub settled_by : ℕ → ℕ → List ℕ
settled_by r w = cond (good r w) (quotient r w ∷ []) []

-- The values of the draws that the first n words settle, the first of them below `first`.
unfoldable pub values_after : Words → ℕ → Bool → ℕ → List ℕ
values_after s first falls zero = []
values_after s first falls (suc n) =
    values_after s first falls n ++ settled_by (bound_after falls first (length (values_after s first falls n))) (s n)

-- How many draws they settle.
abbrev pub settled_after : Words → ℕ → Bool → ℕ → ℕ
settled_after s first falls n = length (values_after s first falls n)

-- The bound of the draw after them.
abbrev pub bound_left : Words → ℕ → Bool → ℕ → ℕ
bound_left s first falls n = bound_after falls first (settled_after s first falls n)
