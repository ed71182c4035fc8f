-- Draws below so many bounds under one budget, for code that looks at one word after the other: what holds after some words, and what it
-- comes to at the end. The values so far are those that the words taken settle (`values_after`), whatever gives the words.
use Rattle.std.specs.Prelude.{◌≡◌, refl, Bool, true, false, List, [], ◌∷◌, ◌++◌, ℕ, zero, suc, ◌+◌, ◌-◌, ◌≤◌, ◌<◌, ◌⊎◌, length}
use Rattle.std.proofs.Common.{◌∙◌, ap, inl, inr, ⊎_elim, add-zero, lt_of_not-le, arith, length-append}
use Rattle.std.proofs.Math.Decide.{dec_le}
use Rattle.words.specs.Draw.{Words, good, quotient, all, short, draws}
use Rattle.rehearsal.specs.Bounds.{bound_after, bounds_from}
use Rattle.rehearsal.specs.BoundsLaws.{bound_none, bound_more, bounds_none, bounds_some}
use Rattle.rehearsal.specs.Values.{values_after, settled_after, bound_left}
use Rattle.rehearsal.specs.ValuesLaws.{values_good, values_bad, settled_few}
use Rattle.rehearsal.specs.WordAfterWord.{Underway, underway_start, underway_good, underway_bad, underway_done, underway_out}

-- After `taken` words: no more draws are settled than asked for, no more words taken than the budget, and no word past the last draw.
pub record Rehearsing (s : Words) (first : ℕ) (falls : Bool) (count budget taken : ℕ) : Type 0 where
  pub most : settled_after s first falls taken ≤ count
  pub under : Underway s (bounds_from first falls count) budget taken (values_after s first falls taken)
      (bounds_from (bound_left s first falls taken) falls (count - settled_after s first falls taken))

-- Before the first word no draw is settled.
pub rehearsing_start : (s : Words) (first : ℕ) (falls : Bool) (count budget : ℕ) → Rehearsing s first falls count budget 0
unfolding values_after
rehearsing_start s first falls count budget =
    let z : count - 0 ≡ count = omega arith in
    record { most = omega arith; under = rw (bound_none falls first, z) underway_start }

module _ (s : Words) (first : ℕ) (falls : Bool) (count budget : ℕ) where
  -- a draw is left, and it is below the bound that is left
  left : (taken : ℕ) → Rehearsing s first falls count budget taken → settled_after s first falls taken < count
      → Underway s (bounds_from first falls count) budget taken (values_after s first falls taken)
      (bound_left s first falls taken
      ∷ bounds_from (bound_after falls (bound_left s first falls taken) 1) falls (count - settled_after s first falls taken - 1))
  left taken h m =
      rw (bounds_some (bound_left s first falls taken) falls (count - settled_after s first falls taken) (omega arith)) at h.under

  -- the words taken have settled vs
  standing : (taken : ℕ) {vs : List ℕ} → values_after s first falls taken ≡ vs → length vs ≤ count
      → Underway s (bounds_from first falls count) budget taken vs
      (bounds_from (bound_after falls first (length vs)) falls (count - length vs))
      → Rehearsing s first falls count budget taken
  standing taken e m u = record { most = rw e m; under = rw e u }

  -- one word more settles a draw, or it does not
  one_more : (taken : ℕ) (b : Bool) → good (bound_left s first falls taken) (s taken) ≡ b → Rehearsing s first falls count budget taken
      → settled_after s first falls taken < count → taken < budget → Rehearsing s first falls count budget (taken + 1)
  one_more taken true g h m u =
      let k = settled_after s first falls taken in
      let vs = values_after s first falls taken ++ (quotient (bound_left s first falls taken) (s taken) ∷ []) in
      let long : length vs ≡ k + 1 = simp length-append in
      let z : count - k - 1 ≡ count - (k + 1) = omega arith in
      standing (taken + 1) (values_good s first falls taken g) (omega arith)
      (rw long (rw (bound_more falls first k 1, z) at (underway_good (left taken h m) u g)))
  one_more taken false g h m u =
      standing (taken + 1) (values_bad s first falls taken g) h.most
      (rw (bounds_some (bound_left s first falls taken) falls (count - settled_after s first falls taken) (omega arith))
      (underway_bad (left taken h m) u g))

  -- n words more, where n draws are left
  pub rehearsing_on : (taken n : ℕ) → Rehearsing s first falls count budget taken → settled_after s first falls taken + n ≤ count
      → taken + n ≤ budget
      → Rehearsing s first falls count budget (taken + n)
  rehearsing_on taken zero h m u = rw add-zero h
  rehearsing_on taken (suc n) h m u =
      let few = settled_few s first falls taken n in
      let more : settled_after s first falls (taken + n) < count = omega (arith, few, m) in
      let room : taken + n < budget = omega (arith, u) in
      let before = rehearsing_on taken n h (omega (arith, m)) (omega (arith, u)) in
      transport_on (one_more (taken + n) (good (bound_left s first falls (taken + n)) (s (taken + n))) refl before more room)
    where
      transport_on : Rehearsing s first falls count budget (taken + n + 1) → Rehearsing s first falls count budget (taken + suc n)
      transport_on r = let one : taken + suc n ≡ taken + n + 1 = omega arith in rw one r

  module _ (taken : ℕ) (h : Rehearsing s first falls count budget taken) where
    -- No more words are taken than the budget has.
    pub rehearsing_within : taken ≤ budget
    rehearsing_within = h.under.within

    -- All draws are settled,
    pub rehearsing_done : count ≤ settled_after s first falls taken
        → draws s (bounds_from first falls count) budget ≡ all (values_after s first falls taken) taken
    rehearsing_done m =
        let z : count - settled_after s first falls taken ≡ 0 = let most = h.most in omega arith in
        underway_done (rw (z, bounds_none (bound_left s first falls taken) falls) at h.under)

    -- or the budget is used up.
    pub rehearsing_out : settled_after s first falls taken < count → budget ≤ taken
        → draws s (bounds_from first falls count) budget ≡ short (settled_after s first falls taken)
    rehearsing_out m b = underway_out (left taken h m) b

  -- One of these comes, after some words.
  abbrev Ends : ℕ → Type 0
  Ends m = (count ≤ settled_after s first falls m) ⊎ ((settled_after s first falls m < count) × (budget ≤ m))

  reach : (fuel taken : ℕ) → taken + fuel ≡ budget → Rehearsing s first falls count budget taken
      → (m : ℕ) × Rehearsing s first falls count budget m × Ends m
  reach zero taken e h =
      elim (dec_le count (settled_after s first falls taken)) [
        | yes c ↦ (taken, h, inl c)
        | no c ↦ (taken, h, inr (lt_of_not-le c, omega arith))
      ]
  reach (suc k) taken e h =
      elim (dec_le count (settled_after s first falls taken)) [
        | yes c ↦ (taken, h, inl c)
        | no c ↦
            let more = lt_of_not-le c in
            reach k (taken + 1) (omega arith) (rehearsing_on taken 1 h (omega arith) (omega arith))
      ]

  -- So the values of draws that are all settled are those that their words settle.
  pub drawn_values : {vs : List ℕ} {n : ℕ} → draws s (bounds_from first falls count) budget ≡ all vs n → values_after s first falls n ≡ vs
  drawn_values {vs} {n} e = go (reach budget 0 (omega arith) (rehearsing_start s first falls count budget))
    where
      go : (m : ℕ) × Rehearsing s first falls count budget m × Ends m → values_after s first falls n ≡ vs
      go (m, h, end) = ⊎_elim (λ c. settled (rehearsing_done m h c)) (λ o. absurd (unsettled (rehearsing_out m h o.0 o.1))) end
        where
          settled : draws s (bounds_from first falls count) budget ≡ all (values_after s first falls m) m
              → values_after s first falls n ≡ vs
          settled d =
              let words : n ≡ m = cc in
              let values : values_after s first falls m ≡ vs = cc in
              ap (values_after s first falls) words ∙ values

          unsettled : draws s (bounds_from first falls count) budget ≡ short (settled_after s first falls m) → ⊥
          unsettled d = let z : ◌≡◌ {A = ℕ} 0 1 = cc in omega arith
