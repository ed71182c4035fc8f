-- The laws of swaps: by their cases, the length that stays, and one place more.
use Rattle.std.specs.Prelude.{◌≡◌, Bool, ◌&&◌, List, [], ◌∷◌, ◌++◌, ℕ, suc, ◌+◌, ◌-◌, ◌≤◌, ◌<◌, get_or, set, take}
use Rattle.std.proofs.Math.Path.{refl}
use Rattle.std.proofs.Common.{sym, ◌∙◌, ap, arith, add-one, length-take-le, take_all, take-suc}
use Rattle.std.proofs.Math.Bool.{true, false, cond}
use borrow.Author.Tests.{lt-ltb, le-ltb}
use Rattle.std.proofs.Math.Dec.{ltb}
use Rattle.std.proofs.Math.ListN.{length, length-set}
use Rattle.shuffle.specs.Swap.{swapped, arranged}

module _ (l : List ℕ) (i j : ℕ) where
  -- both places are in the list,
  pub swap_inside : i < length l → j < length l → swapped l i j ≡ set (set l i (get_or l j 0)) j (get_or l i 0)
  unfolding swapped
  swap_inside h k = rw (lt-ltb i (length l) h, lt-ltb j (length l) k)

  -- or one is past its end.
  pub swap_first_outside : length l ≤ i → swapped l i j ≡ l
  unfolding swapped
  swap_first_outside h = rw (le-ltb i (length l) h)

  -- The same of the second place.
  pub swap_second_outside : length l ≤ j → swapped l i j ≡ l
  unfolding swapped
  swap_second_outside h = go (ltb i (length l))
    where
      go : (b : Bool) → cond (b && ltb j (length l)) (set (set l i (get_or l j 0)) j (get_or l i 0)) l ≡ l
      go true = rw (le-ltb j (length l) h)
      go false = refl

  -- A swap keeps the length.
  pub length_swapped : length (swapped l i j) ≡ length l
  unfolding swapped
  length_swapped = go (ltb i (length l) && ltb j (length l))
    where
      go : (b : Bool) → length (cond b (set (set l i (get_or l j 0)) j (get_or l i 0)) l) ≡ length l
      go true = simp length-set
      go false = refl

-- With no place to swap for the list stays.
pub arranged_none : (i : ℕ) (l : List ℕ) → arranged i [] l ≡ l
unfolding arranged
arranged_none i l = refl

-- The swaps of any places keep the length.
pub length_arranged : (i : ℕ) (js l : List ℕ) → length (arranged i js l) ≡ length l
unfolding arranged
length_arranged i [] l = refl
length_arranged i (j ∷ js) l = length_arranged (i - 1) js (swapped l i j) ∙ length_swapped l i j

-- one place more at the end
pub arranged_more : (i : ℕ) (js : List ℕ) (j : ℕ) (l : List ℕ) → arranged i (js ++ (j ∷ [])) l ≡ swapped (arranged i js l) (i - length js) j
unfolding arranged
arranged_more i [] j l = let z : i - 0 ≡ i = omega arith in rw z
arranged_more i (x ∷ js) j l =
    let z : i - 1 - length js ≡ i - suc (length js) = omega arith in
    arranged_more (i - 1) js j (swapped l i x) ∙ ap (λ (n : ℕ). swapped (arranged (i - 1) js (swapped l i x)) n j) z

-- some places, and then some more
pub arranged_append : (i : ℕ) (js ks l : List ℕ) → arranged i (js ++ ks) l ≡ arranged (i - length js) ks (arranged i js l)
unfolding arranged
arranged_append i [] ks l = let z : i - 0 ≡ i = omega arith in rw z
arranged_append i (j ∷ js) ks l =
    let z : i - 1 - length js ≡ i - suc (length js) = omega arith in
    arranged_append (i - 1) js ks (swapped l i j) ∙ ap (λ (n : ℕ). arranged n ks (arranged (i - 1) js (swapped l i j))) z

-- ---- the loop over places

-- The first i of the places are swapped for, and `at` is the next one's partner.
pub record Arranging (last : ℕ) (places : List ℕ) (i at : ℕ) (l₀ l : List ℕ) : Type 0 where
  pub within : i ≤ length places
  pub here : at ≡ last - i
  pub list : l ≡ arranged last (take i places) l₀

-- Before the first swap the list is as it came.
pub arranging_start : (last : ℕ) (places l : List ℕ) → Arranging last places 0 last l l
arranging_start last places l = record { within = omega arith; here = omega arith; list = sym (arranged_none last l) }

module _ {last : ℕ} {places : List ℕ} {i at : ℕ} {l₀ l : List ℕ} (h : Arranging last places i at l₀ l) where
  -- One swap more goes on to the next place.
  pub arranging_on : {l' : List ℕ} {at' : ℕ} → i < length places → l' ≡ swapped l at (get_or places i 0) → at' ≡ at - 1
      → Arranging last places (i + 1) at' l₀ l'
  arranging_on more e q =
      let here = h.here in
      let long : length (take i places) ≡ i = length-take-le i places h.within in
      record {
        within = omega arith;
        here = omega arith;
        list = e ∙ rw (h.list, here, add-one, take-suc places i 0 more, arranged_more, long);
      }

  -- The list keeps its length.
  pub arranging_length : length l ≡ length l₀
  arranging_length = ap length h.list ∙ length_arranged last (take i places) l₀

  -- At the end every place is swapped for.
  pub arranging_done : length places ≤ i → l ≡ arranged last places l₀
  arranging_done end = h.list ∙ ap (λ (x : List ℕ). arranged last x l₀) (take_all i places end)
