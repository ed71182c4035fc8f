-- Exactly one outcome for `random_range` and `char`, said as a relation in the documents' words: when each is refused, and with which
-- number; and between which numbers an answer lies.
use Rattle.std.specs.Prelude.{◌≡◌, refl, ◌↔◌, ℕ, ◌+◌, ◌-◌, ◌≤◌, ◌<◌}
use Rattle.std.proofs.Common.{◌∙◌, ap, lt_of_not-le, arith}
use Rattle.std.proofs.Math.Decide.{dec_le}
use Rattle.words.specs.Refusal.{answered, order, out_of_budget}
use Rattle.words.specs.declared.outcome.Outcome.{Outcome}
use Rattle.words.specs.Draw.{Words, quotient, refused, gives, bounded_by}
use Rattle.words.specs.GoodWord.{FirstGood, NoneGood}
use Rattle.words.specs.BelowItsBound.{WordSized}
use Rattle.words.proofs.BelowItsBound.{first_below}
use Rattle.words.specs.OneOutcome.{Bounded, zero_range_lem}
use Rattle.words.proofs.OneOutcome.{bounded_is, bounded_only}
use Rattle.words.specs.OneOutcome as one
use Rattle.words.specs.Outcomes.{raised}
use Rattle.words.specs.OutcomeLaws.{raised_answered, raised_refused}
use Rattle.bounded.specs.Ranges.{range_by, char_by}
use Rattle.bounded.specs.RangeLaws.{range_order, range_drawn}

-- ---- a draw below r > 0 with n added

-- which outcomes it may have
pub data Raised (s : Words) (n r budget : ℕ) : Outcome → Type 0 where
  answers : (k : ℕ) → FirstGood s r budget k → Raised s n r budget (gives (n + quotient r (s k)) (k + 1))
  out_of_budget_lem : NoneGood s r budget → Raised s n r budget (refused out_of_budget)

pub raised_is : (s : Words) (n r budget : ℕ) → 0 < r → Raised s n r budget (raised n (bounded_by s r budget))
raised_is s n r budget pos = go (bounded_is s r budget)
  where
    go : {o : Outcome} → Bounded s r budget o → Raised s n r budget (raised n o)
    go (zero_range_lem z) = absurd (omega arith)
    go (one.answers k h f) = rw (raised_answered n (gives (quotient r (s k)) (k + 1)) refl) (answers k f)
    go (one.out_of_budget_lem h f) = rw (raised_refused n (refused out_of_budget) (λ e. omega arith)) (out_of_budget_lem f)

pub raised_only : {s : Words} {n r budget : ℕ} {o : Outcome} → 0 < r → Raised s n r budget o → raised n (bounded_by s r budget) ≡ o
raised_only {s} {n} {r} {budget} pos (answers k f) =
    ap (raised n) (bounded_only s r budget (one.answers k pos f)) ∙ raised_answered n (gives (quotient r (s k)) (k + 1)) refl
raised_only {s} {n} {r} {budget} pos (out_of_budget_lem f) =
    ap (raised n) (bounded_only s r budget (one.out_of_budget_lem pos f)) ∙ raised_refused n (refused out_of_budget) (λ e. omega arith)

-- ---- `random_range`: "min >= max" is refused with 2, and otherwise it is min and a draw below max - min

-- which outcomes it may have
pub data Ranged (s : Words) (min max budget : ℕ) : Outcome → Type 0 where
  wrong_order : max ≤ min → Ranged s min max budget (refused order)
  drawn : {o : Outcome} → min < max → Raised s min (max - min) budget o → Ranged s min max budget o

module _ (s : Words) (min max budget : ℕ) where
  pub ranged_is : Ranged s min max budget (range_by s min max budget)
  ranged_is =
      elim (dec_le max min) [
        | yes h ↦ rw (range_order s min max budget h) (wrong_order h)
        | no h ↦
            let l = lt_of_not-le h in
            rw (range_drawn s min max budget l) (drawn l (raised_is s min (max - min) budget (omega arith)))
      ]

  pub ranged_only : {o : Outcome} → Ranged s min max budget o → range_by s min max budget ≡ o
  ranged_only (wrong_order h) = range_order s min max budget h
  ranged_only (drawn l d) = range_drawn s min max budget l ∙ raised_only (omega arith) d

  pub range_order_exactly_if : ((range_by s min max budget).refusal ≡ order) ↔ (max ≤ min)
  range_order_exactly_if = (only_if ranged_is, λ h. ap (λ (o : Outcome). o.refusal) (range_order s min max budget h))
    where
      only_if : {o : Outcome} → Ranged s min max budget o → o.refusal ≡ order → max ≤ min
      only_if (wrong_order h) e = h
      only_if (drawn l (answers k f)) e = absurd (omega arith)
      only_if (drawn l (out_of_budget_lem f)) e = absurd (omega arith)

  pub range_out_of_budget_exactly_if : ((range_by s min max budget).refusal ≡ out_of_budget) ↔ ((min < max) × NoneGood s (max - min) budget)
  range_out_of_budget_exactly_if =
      (only_if ranged_is, λ h. ap (λ (o : Outcome). o.refusal) (ranged_only (drawn h.0 (out_of_budget_lem h.1))))
    where
      only_if : {o : Outcome} → Ranged s min max budget o → o.refusal ≡ out_of_budget → (min < max) × NoneGood s (max - min) budget
      only_if (wrong_order h) e = absurd (omega arith)
      only_if (drawn l (answers k f)) e = absurd (omega arith)
      only_if (drawn l (out_of_budget_lem f)) e = (l, f)

  -- "min up to max - 1"
  pub range_between : WordSized s → (range_by s min max budget).refusal ≡ answered
      → (min ≤ (range_by s min max budget).value) × ((range_by s min max budget).value < max)
  range_between sized = go ranged_is
    where
      go : {o : Outcome} → Ranged s min max budget o → o.refusal ≡ answered → (min ≤ o.value) × (o.value < max)
      go (wrong_order h) e = absurd (omega arith)
      go (drawn l (answers k f)) e = (omega arith, omega (arith, first_below sized f))
      go (drawn l (out_of_budget_lem f)) e = absurd (omega arith)

-- ---- `char`: refused with 8 alone

module _ (s : Words) (budget : ℕ) where
  pub char_is : Raised s 97 26 budget (char_by s budget)
  unfolding char_by
  char_is = raised_is s 97 26 budget (omega arith)

  pub char_only : {o : Outcome} → Raised s 97 26 budget o → char_by s budget ≡ o
  unfolding char_by
  char_only d = raised_only (omega arith) d

  pub char_out_of_budget_exactly_if : ((char_by s budget).refusal ≡ answered → ⊥) ↔ NoneGood s 26 budget
  char_out_of_budget_exactly_if = (only_if char_is, λ f e. absurd (omega (arith, refused_number f)))
    where
      refused_number : NoneGood s 26 budget → (char_by s budget).refusal ≡ out_of_budget
      refused_number f = ap (λ (o : Outcome). o.refusal) (char_only (out_of_budget_lem f))

      only_if : {o : Outcome} → Raised s 97 26 budget o → (o.refusal ≡ answered → ⊥) → NoneGood s 26 budget
      only_if (answers k f) e = absurd (e refl)
      only_if (out_of_budget_lem f) e = f

  -- a small letter: 97 is "a" and 122 "z"
  pub char_between : WordSized s → (char_by s budget).refusal ≡ answered
      → (97 ≤ (char_by s budget).value) × ((char_by s budget).value ≤ 122)
  char_between sized = go char_is
    where
      go : {o : Outcome} → Raised s 97 26 budget o → o.refusal ≡ answered → (97 ≤ o.value) × (o.value ≤ 122)
      go (answers k f) e = (omega arith, omega (arith, first_below sized f))
      go (out_of_budget_lem f) e = absurd (omega arith)
