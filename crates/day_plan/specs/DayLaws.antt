-- The laws of a day laid out, and of the plan by its cases, for code that works them out.
use Rattle.std.specs.Prelude.{◌≡◌, refl, List, ◌++◌, ℕ, zero, suc, ◌+◌, ◌-◌, ◌≤◌, ◌<◌, min, replicate}
use Rattle.std.proofs.Common.{sym, ◌∙◌, ap, lt_of_not-le, eq-eqb, ne_eqb, length-append, get_or-append-add}
use Rattle.std.proofs.Common.{ext_get_or}
use Rattle.std.proofs.Math.Decide.{dec_le}
use native.Mathlib.Omega.{arith}
use Rattle.std.proofs.Math.ListN.{length, get_or, length-replicate, get_or-replicate, get_or-append}
use Rattle.words.specs.Refusal.{answered}
use Rattle.words.specs.Draw.{Words}
use Rattle.shuffle.specs.Shuffle.{shuffle_by, shuffled}
use Rattle.day_plan.specs.Day.{blank, inlets_from, laid_out, planned_day}

-- what the slot i of a day laid out holds: i + 1 less the blanks, and 0 below them
abbrev pub slot_of : ℕ → ℕ → ℕ
slot_of blanks i = i + 1 - blanks

-- The inlets of a day are as many as asked for.
pub inlets_length : (k n : ℕ) → length (inlets_from k n) ≡ n
unfolding inlets_from
inlets_length k zero = refl
inlets_length k (suc n) = ap suc (inlets_length (k + 1) n)

inlet_at : (k n j : ℕ) → j < n → get_or (inlets_from k n) j 0 ≡ k + j
unfolding inlets_from
inlet_at k zero j h = absurd (omega arith)
inlet_at k (suc n) zero h = omega arith
inlet_at k (suc n) (suc j) h = inlet_at (k + 1) n j (omega arith) ∙ omega arith

module _ (blanks n : ℕ) where
  -- A day laid out has its n slots.
  pub laid_length : length (laid_out blanks n) ≡ n
  unfolding laid_out
  laid_length = simp (length-append, length-replicate, inlets_length) (omega arith)

  -- the blanks of a day laid out
  abbrev front : List ℕ
  front = replicate (min blanks n) blank

  -- and its inlets
  abbrev back : List ℕ
  back = inlets_from 1 (n - blanks)

  -- Each slot of a day laid out holds what it is to hold.
  pub laid_slot : (j : ℕ) → j < n → get_or (laid_out blanks n) j 0 ≡ slot_of blanks j
  unfolding laid_out
  laid_slot j h = elim (dec_le blanks j) [ yes k ↦ inlet k | no k ↦ empty (lt_of_not-le k) ]
    where
      empty : j < blanks → get_or (front ++ back) j 0 ≡ slot_of blanks j
      empty k =
          let short : j < length front = simp length-replicate (omega arith) in
          get_or-append front back 0 j short ∙ get_or-replicate (min blanks n) j blank 0 (omega arith) ∙ omega arith

      inlet : blanks ≤ j → get_or (front ++ back) j 0 ≡ slot_of blanks j
      inlet k =
          let split : j ≡ length front + (j - blanks) = simp length-replicate (omega arith) in
          let there = inlet_at 1 (n - blanks) (j - blanks) (omega arith) in
          ap (λ (i : ℕ). get_or (front ++ back) i 0) split ∙ get_or-append-add front back (j - blanks) 0 ∙ there ∙ omega arith

-- ---- the loop over slots

-- The list l₀ has become l, of the same length and laid out up to the slot i.
pub record LaidTo (blanks i : ℕ) (l₀ l : List ℕ) : Type 0 where
  pub same_length : length l ≡ length l₀
  pub within : i ≤ length l₀
  pub laid : (j : ℕ) → j < i → get_or l j 0 ≡ slot_of blanks j

module _ {blanks i : ℕ} {l₀ l : List ℕ} (h : LaidTo blanks i l₀ l) where
  -- Where every slot is, it is the day laid out.
  pub laid_done : length l ≤ i → l ≡ laid_out blanks (length l₀)
  laid_done end = ext_get_or 0 l day (same ∙ sym (laid_length blanks (length l₀))) each
    where
      day : List ℕ
      day = laid_out blanks (length l₀)

      same : length l ≡ length l₀
      same = h.same_length

      each : (j : ℕ) → j < length l → get_or l j 0 ≡ get_or day j 0
      each j k = h.laid j (omega arith) ∙ sym (laid_slot blanks (length l₀) j (omega (arith, same)))

-- ---- the plan by its cases

module _ (s : Words) (blanks : ℕ) (l : List ℕ) (budget : ℕ) where
  -- Answered, it is the day laid out and shuffled;
  pub plan_answered : (shuffle_by s (length l) budget).refusal ≡ answered
      → planned_day s blanks l budget ≡ shuffled s (laid_out blanks (length l)) budget
  unfolding planned_day
  plan_answered h = rw (eq-eqb (shuffle_by s (length l) budget).refusal answered h)

  -- refused, it is the list as it came.
  pub plan_refused : ((shuffle_by s (length l) budget).refusal ≡ answered → ⊥) → planned_day s blanks l budget ≡ l
  unfolding planned_day
  plan_refused h = rw (ne_eqb (shuffle_by s (length l) budget).refusal answered h)
