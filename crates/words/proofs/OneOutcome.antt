-- Exactly one outcome: a draw below r, said as a relation in the order's words, has the outcome `bounded_by` and no other.
use Rattle.std.specs.Prelude.{◌≡◌, refl, ℕ, zero, suc, ◌<◌}
use Rattle.std.proofs.Common.{◌∙◌, ap, eq-eqb, ne_eqb}
use native.Mathlib.Omega.{arith}
use Rattle.words.specs.Refusal.{zero_range}
use Rattle.words.specs.declared.outcome.Outcome.{Outcome}
use Rattle.words.specs.Draw.{Words, first_good, refused, settled_by, bounded_by}
use Rattle.words.specs.GoodWord.{Looked, some_good, none_good}
use Rattle.words.proofs.GoodWord.{look, first_found, none_found}
use Rattle.words.specs.OneOutcome.{Bounded, zero_range_lem, answers, out_of_budget_lem}

module _ (s : Words) (r budget : ℕ) where
  bounded_zero : r ≡ 0 → bounded_by s r budget ≡ refused zero_range
  unfolding bounded_by
  bounded_zero z = rw (eq-eqb r 0 z)

  bounded_positive : 0 < r → bounded_by s r budget ≡ settled_by s r (first_good s r budget)
  unfolding bounded_by
  bounded_positive h =
      let n : r ≡ 0 → ⊥ = λ z. omega arith in
      rw (ne_eqb r 0 n)

  -- No other outcome than `bounded_by`,
  pub bounded_only : {o : Outcome} → Bounded s r budget o → bounded_by s r budget ≡ o
  bounded_only (zero_range_lem z) = bounded_zero z
  bounded_only (answers k h f) = bounded_positive h ∙ ap (settled_by s r) (first_found s r budget f)
  bounded_only (out_of_budget_lem h f) = bounded_positive h ∙ ap (settled_by s r) (none_found s r budget f)

  -- which is one.
  pub bounded_is : Bounded s r budget (bounded_by s r budget)
  bounded_is = go r refl (look s r budget)
    where
      outcome : {o : Outcome} → Bounded s r budget o → Bounded s r budget (bounded_by s r budget)
      outcome b = rw (bounded_only b) b

      go : (n : ℕ) → r ≡ n → Looked s r budget → Bounded s r budget (bounded_by s r budget)
      go zero e l = outcome (zero_range_lem e)
      go (suc n) e (some_good k f) = outcome (answers k (omega arith) f)
      go (suc n) e (none_good f) = outcome (out_of_budget_lem (omega arith) f)
