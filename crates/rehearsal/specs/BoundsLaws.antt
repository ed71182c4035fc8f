-- The laws of bounds one after the other.
use Rattle.std.specs.Prelude.{◌≡◌, refl, Bool, true, false, List, [], ◌∷◌, ◌++◌, ℕ, zero, suc, ◌+◌, ◌-◌, ◌<◌, length, get_or}
use Rattle.std.proofs.Common.{◌∙◌, ap, arith}
use Rattle.rehearsal.specs.Bounds.{bound_after, bounds_from}

-- ---- the bound after some draws

-- Before the first draw the bound is the first one.
pub bound_none : (falls : Bool) (first : ℕ) → bound_after falls first 0 ≡ first
bound_none true first = omega arith
bound_none false first = refl

-- after j draws, and then k
pub bound_more : (falls : Bool) (first j k : ℕ) → bound_after falls (bound_after falls first j) k ≡ bound_after falls first (j + k)
bound_more true first j k = omega arith
bound_more false first j k = refl

-- ---- the bounds of so many draws

-- Where no draw is made there is no bound.
pub bounds_none : (r : ℕ) (falls : Bool) → bounds_from r falls 0 ≡ []
unfolding bounds_from
bounds_none r falls = refl

-- Where a draw is left, its bound comes first, and then those of the draws after it.
pub bounds_some : (r : ℕ) (falls : Bool) (n : ℕ) → 0 < n → bounds_from r falls n ≡ r ∷ bounds_from (bound_after falls r 1) falls (n - 1)
unfolding bounds_from
bounds_some r falls zero h = absurd (omega arith)
bounds_some r falls (suc n) h =
    let a : suc n - 1 ≡ n = omega arith in
    rw a

-- There is a bound for each draw.
pub bounds_length : (r : ℕ) (falls : Bool) (n : ℕ) → length (bounds_from r falls n) ≡ n
unfolding bounds_from
bounds_length r falls zero = refl
bounds_length r falls (suc n) = ap suc (bounds_length (bound_after falls r 1) falls n)

-- the j-th of them
pub bound_at : (r : ℕ) (falls : Bool) (n j : ℕ) → j < n → get_or (bounds_from r falls n) j 0 ≡ bound_after falls r j
unfolding bounds_from
bound_at r falls zero j h = absurd (omega arith)
bound_at r falls (suc n) zero h = ap (λ (x : ℕ). x) (go falls)
  where
    go : (f : Bool) → r ≡ bound_after f r 0
    go true = omega arith
    go false = refl
bound_at r falls (suc n) (suc j) h =
    bound_at (bound_after falls r 1) falls n j (omega arith) ∙ bound_more falls r 1 j ∙ ap (bound_after falls r) (omega arith)

-- the bounds before the j-th, it, and those after it
pub bounds_split : (r : ℕ) (falls : Bool) (j k : ℕ)
    → bounds_from r falls (j + suc k) ≡ bounds_from r falls j ++ (bound_after falls r j ∷ bounds_from (bound_after falls r (j + 1)) falls k)
unfolding bounds_from
bounds_split r falls zero k =
    let a : 0 + suc k ≡ suc k = omega arith in
    rw (a, bound_none falls r)
bounds_split r falls (suc j) k =
    let a : suc j + suc k ≡ suc (j + suc k) = omega arith in
    let b : 1 + j ≡ suc j = omega arith in
    let c : 1 + (j + 1) ≡ suc j + 1 = omega arith in
    rw a
    (ap (λ (rest : List ℕ). r ∷ rest)
    (bounds_split (bound_after falls r 1) falls j k
    ∙ rw (bound_more falls r 1 j, bound_more falls r 1 (j + 1), b, c)))
