-- A draw below r after a check of the arguments, as `choose` and `rand_slice` are: that it is a budgeted call; which outcomes it may have,
-- said as a relation; and when each comes.
use Rattle.std.specs.Prelude.{◌≡◌, refl, Bool, true, false, ◌↔◌, ℕ, ◌+◌, ◌<◌, eqb}
use Rattle.std.proofs.Common.{sym, ◌∙◌, ap, arith, eqb-true, eq-eqb, ne_eqb}
use Rattle.std.proofs.lemmas.Bool.{eqb-false}
use Rattle.words.specs.Refusal.{answered, out_of_budget}
use Rattle.words.specs.declared.outcome.Outcome.{Outcome}
use Rattle.words.specs.Draw.{Words, quotient, refused, gives, bounded_by}
use Rattle.words.specs.GoodWord.{FirstGood, NoneGood}
use Rattle.words.specs.BelowItsBound.{WordSized}
use Rattle.words.proofs.BelowItsBound.{first_below}
use Rattle.words.specs.OneOutcome.{Bounded, zero_range_lem}
use Rattle.words.proofs.OneOutcome.{bounded_is, bounded_only}
use Rattle.words.specs.OneOutcome as one
use Rattle.bounded.specs.Budgeted.{Budgeted, checked_budgeted}
use Rattle.lists.specs.Checks.{unless}

module _ (number : ℕ) (o : Outcome) where
  pub unless_passed : number ≡ answered → unless number o ≡ o
  unfolding unless
  unless_passed h = rw (eq-eqb number answered h)

  pub unless_refuses : (number ≡ answered → ⊥) → unless number o ≡ refused number
  unfolding unless
  unless_refuses h = rw (ne_eqb number answered h)

pub unless_budgeted : {call : Words → ℕ → Outcome} (number : ℕ) → Budgeted call → Budgeted (λ s b. unless number (call s b))
unfolding unless
unless_budgeted {call} number d = go (eqb number answered) refl
  where
    go : (b : Bool) → eqb number answered ≡ b → Budgeted (λ s b. unless number (call s b))
    go true e = rw e d
    go false e = rw e (checked_budgeted true number (eqb-false number answered e) d)

-- "Exactly when": refused by the check, and otherwise "answered exactly if" a good word comes within the budget.
pub data Unless (number : ℕ) (s : Words) (r budget : ℕ) : Outcome → Type 0 where
  refuses : (number ≡ answered → ⊥) → Unless number s r budget (refused number)
  answers : (k : ℕ) → number ≡ answered → FirstGood s r budget k → Unless number s r budget (gives (quotient r (s k)) (k + 1))
  out_of_budget_lem : number ≡ answered → NoneGood s r budget → Unless number s r budget (refused out_of_budget)

-- a check that lets no bound of 0 pass
module _ (number : ℕ) (s : Words) (r budget : ℕ) (pos : number ≡ answered → 0 < r) where
  pub unless_is : Unless number s r budget (unless number (bounded_by s r budget))
  unless_is = go (eqb number answered) refl
    where
      drawn : number ≡ answered → {o : Outcome} → Bounded s r budget o → Unless number s r budget o
      drawn z (zero_range_lem e) = absurd (omega (arith, pos z))
      drawn z (one.answers k h f) = answers k z f
      drawn z (one.out_of_budget_lem h f) = out_of_budget_lem z f

      go : (b : Bool) → eqb number answered ≡ b → Unless number s r budget (unless number (bounded_by s r budget))
      go true e =
          let z = eqb-true number answered e in
          rw (unless_passed number (bounded_by s r budget) z) (drawn z (bounded_is s r budget))
      go false e =
          let h = eqb-false number answered e in
          rw (unless_refuses number (bounded_by s r budget) h) (refuses h)

  pub unless_only : {o : Outcome} → Unless number s r budget o → unless number (bounded_by s r budget) ≡ o
  unless_only (refuses h) = unless_refuses number (bounded_by s r budget) h
  unless_only (answers k z f) = unless_passed number (bounded_by s r budget) z ∙ bounded_only s r budget (one.answers k (pos z) f)
  unless_only (out_of_budget_lem z f) =
      unless_passed number (bounded_by s r budget) z ∙ bounded_only s r budget (one.out_of_budget_lem (pos z) f)

  -- refused by the check,
  pub checked_exactly_if : (m : ℕ) → (m ≡ answered → ⊥) → (m ≡ out_of_budget → ⊥)
      → ((unless number (bounded_by s r budget)).refusal ≡ m) ↔ (number ≡ m)
  checked_exactly_if m some other = (only_if unless_is, exactly)
    where
      exactly : number ≡ m → (unless number (bounded_by s r budget)).refusal ≡ m
      exactly e = ap (λ (o : Outcome). o.refusal) (unless_only (refuses (λ z. some (sym e ∙ z)))) ∙ e

      only_if : {o : Outcome} → Unless number s r budget o → o.refusal ≡ m → number ≡ m
      only_if (refuses h) e = e
      only_if (answers k z f) e = absurd (some (sym e))
      only_if (out_of_budget_lem z f) e = absurd (other (sym e))

  -- out of budget, "8 last",
  pub short_exactly_if : (number ≡ out_of_budget → ⊥)
      → ((unless number (bounded_by s r budget)).refusal ≡ out_of_budget) ↔ ((number ≡ answered) × NoneGood s r budget)
  short_exactly_if other = (only_if unless_is, λ h. ap (λ (o : Outcome). o.refusal) (unless_only (out_of_budget_lem h.0 h.1)))
    where
      only_if : {o : Outcome} → Unless number s r budget o → o.refusal ≡ out_of_budget → (number ≡ answered) × NoneGood s r budget
      only_if (refuses h) e = absurd (other e)
      only_if (answers k z f) e = absurd (omega arith)
      only_if (out_of_budget_lem z f) e = (z, f)

  -- or answered, where the check passed, with a value below r, by a word at least.
  pub answered_passed : (unless number (bounded_by s r budget)).refusal ≡ answered → number ≡ answered
  answered_passed = go unless_is
    where
      go : {o : Outcome} → Unless number s r budget o → o.refusal ≡ answered → number ≡ answered
      go (refuses h) e = e
      go (answers k z f) e = z
      go (out_of_budget_lem z f) e = z

  pub answered_below : WordSized s → (unless number (bounded_by s r budget)).refusal ≡ answered
      → (unless number (bounded_by s r budget)).value < r
  answered_below sized = go unless_is
    where
      go : {o : Outcome} → Unless number s r budget o → o.refusal ≡ answered → o.value < r
      go (refuses h) e = absurd (h e)
      go (answers k z f) e = first_below sized f
      go (out_of_budget_lem z f) e = absurd (omega arith)

  pub answered_uses_a_word : (unless number (bounded_by s r budget)).refusal ≡ answered → 0 < (unless number (bounded_by s r budget)).used
  answered_uses_a_word = go unless_is
    where
      go : {o : Outcome} → Unless number s r budget o → o.refusal ≡ answered → 0 < o.used
      go (refuses h) e = absurd (h e)
      go (answers k z f) e = omega arith
      go (out_of_budget_lem z f) e = absurd (omega arith)
