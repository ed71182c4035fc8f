-- A shuffled list has the same entries: as many, and every number as often as before.
use Rattle.std.specs.Prelude.{◌≡◌, Bool, cond, List, [], ◌∷◌, ℕ, zero, suc, ◌+◌, ◌-◌, ◌<◌, eqb, ltb, get_or, set}
use Rattle.std.proofs.Math.Path.{refl}
use Rattle.std.proofs.Common.{◌∙◌, ap, lt_of_not-le, arith, eqb-true, length-set, get_or-set_same, get_or-set_other}
use Rattle.std.proofs.Math.Bool.{true, false}
use Rattle.std.proofs.Math.Decide.{dec_le}
use Rattle.std.proofs.lemmas.Bool.{eqb-false}
use Rattle.std.proofs.Math.ListN.{length}
use Rattle.words.specs.Draw.{Words, Drawn, all, short}
use Rattle.lists.specs.Limit.{list_limit}
use Rattle.shuffle.specs.Swap.{swapped, arranged}
use Rattle.shuffle.specs.SwapLaws.{swap_inside, swap_first_outside, swap_second_outside, length_arranged}
use Rattle.shuffle.specs.Shuffle.{places_drawn, list_after, shuffled}

-- 1 for an entry that is the number x, and 0 for another
abbrev pub one : ℕ → ℕ → ℕ
one x y = cond (eqb x y) 1 0

-- how often the number x stands in a list
unfoldable pub how_many : ℕ → List ℕ → ℕ
how_many x [] = 0
how_many x (y ∷ l) = one x y + how_many x l

-- an entry replaced
how_many_set : (x : ℕ) (l : List ℕ) (i v : ℕ) → i < length l → how_many x (set l i v) + one x (get_or l i 0) ≡ how_many x l + one x v
unfolding how_many
how_many_set x [] i v h = absurd (omega arith)
how_many_set x (y ∷ l) zero v h = omega arith
how_many_set x (y ∷ l) (suc i) v h = omega (arith, how_many_set x l i v (omega arith))

-- two entries swapped
pub how_many_swapped : (x : ℕ) (l : List ℕ) (i j : ℕ) → how_many x (swapped l i j) ≡ how_many x l
how_many_swapped x l i j =
    elim (dec_le (length l) i) [
      | yes h ↦ ap (how_many x) (swap_first_outside l i j h)
      | no h ↦ elim (dec_le (length l) j) [
        | yes k ↦ ap (how_many x) (swap_second_outside l i j k)
        | no k ↦ inside (lt_of_not-le h) (lt_of_not-le k)
      ]
    ]
  where
    same_there : i < length l → j < length l → get_or (set l i (get_or l j 0)) j 0 ≡ get_or l j 0
    same_there h k = go (eqb j i) refl
      where
        go : (b : Bool) → eqb j i ≡ b → get_or (set l i (get_or l j 0)) j 0 ≡ get_or l j 0
        go true e = let m : j ≡ i = eqb-true j i e in rw m (get_or-set_same l i (get_or l i 0) 0 h)
        go false e = get_or-set_other l i j (get_or l j 0) 0 (eqb-false j i e)

    inside : i < length l → j < length l → how_many x (swapped l i j) ≡ how_many x l
    inside h k =
        let first = how_many_set x l i (get_or l j 0) h in
        let second = how_many_set x (set l i (get_or l j 0)) j (get_or l i 0) (simp length-set k) in
        let there = ap (one x) (same_there h k) in
        rw (swap_inside l i j h k) (omega arith)

-- the swaps of any places
pub how_many_arranged : (x i : ℕ) (js l : List ℕ) → how_many x (arranged i js l) ≡ how_many x l
unfolding arranged
how_many_arranged x i [] l = refl
how_many_arranged x i (j ∷ js) l = how_many_arranged x (i - 1) js (swapped l i j) ∙ how_many_swapped x l i j

module _ (s : Words) (l : List ℕ) (budget : ℕ) where
  -- Every number stands as often in the shuffled list as before,
  pub same_entries : (x : ℕ) → how_many x (shuffled s l budget) ≡ how_many x l
  unfolding shuffled
  same_entries x = go (ltb list_limit (length l)) (places_drawn s (length l) budget)
    where
      go : (long : Bool) (d : Drawn) → how_many x (cond long l (list_after l d)) ≡ how_many x l
      go true d = refl
      go false (all places n) = how_many_arranged x (length l - 1) places l
      go false (short m) = refl

  -- and the list keeps its length.
  pub same_length : length (shuffled s l budget) ≡ length l
  unfolding shuffled
  same_length = go (ltb list_limit (length l)) (places_drawn s (length l) budget)
    where
      go : (long : Bool) (d : Drawn) → length (cond long l (list_after l d)) ≡ length l
      go true d = refl
      go false (all places n) = length_arranged (length l - 1) places l
      go false (short m) = refl
