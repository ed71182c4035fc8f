-- The functions of outcomes by their cases, and that a sum modulo 2^32 is the sum where it has 32 bits.
use Rattle.std.specs.Prelude.{◌≡◌, Bool, true, false, ℕ, ◌+◌, ◌%◌, ◌^◌, ◌<◌, eqb}
use Rattle.std.proofs.Math.Path.{refl}
use Rattle.std.proofs.Common.{sym, ◌∙◌, eq-eqb, ne_eqb, eqb-true}
use Rattle.std.proofs.Math.Nat.{mod-eq_of_lt}
use Rattle.std.proofs.lemmas.Bool.{eqb-false}
use Rattle.words.specs.Refusal.{answered}
use Rattle.words.specs.declared.outcome.Outcome.{Outcome}
use Rattle.words.specs.Draw.{refused, gives}
use Rattle.words.specs.Outcomes.{worked_on, mapped, raised, raised_modulo}

-- ---- a value worked on

module _ {A : Type 0} (f : ℕ → A) (z : A) (o : Outcome) where
  pub worked_answered : o.refusal ≡ answered → worked_on f z o ≡ f o.value
  unfolding worked_on
  worked_answered h = rw (eq-eqb o.refusal answered h)

  pub worked_refused : (o.refusal ≡ answered → ⊥) → worked_on f z o ≡ z
  unfolding worked_on
  worked_refused h = rw (ne_eqb o.refusal answered h)

-- two functions that agree on the value of an answer
pub worked_same : {A : Type 0} (f g : ℕ → A) (z : A) (o : Outcome) → (o.refusal ≡ answered → f o.value ≡ g o.value)
    → worked_on f z o ≡ worked_on g z o
worked_same f g z o same = go (eqb o.refusal answered) refl
  where
    go : (b : Bool) → eqb o.refusal answered ≡ b → worked_on f z o ≡ worked_on g z o
    go true e =
        let a = eqb-true o.refusal answered e in
        worked_answered f z o a ∙ same a ∙ sym (worked_answered g z o a)
    go false e =
        let n = eqb-false o.refusal answered e in
        worked_refused f z o n ∙ sym (worked_refused g z o n)

-- ---- an outcome whose value is worked on

module _ (f : ℕ → ℕ) (o : Outcome) where
  pub mapped_answered : o.refusal ≡ answered → mapped f o ≡ gives (f o.value) o.used
  unfolding mapped
  mapped_answered h = rw (worked_answered f o.value o h, h)

  pub mapped_refused : (o.refusal ≡ answered → ⊥) → mapped f o ≡ o
  unfolding mapped
  mapped_refused h = rw (worked_refused f o.value o h)

-- ---- a number added

module _ (n : ℕ) (o : Outcome) where
  pub raised_answered : o.refusal ≡ answered → raised n o ≡ gives (n + o.value) o.used
  unfolding raised
  raised_answered = mapped_answered (λ v. n + v) o

  pub raised_refused : (o.refusal ≡ answered → ⊥) → raised n o ≡ o
  unfolding raised
  raised_refused = mapped_refused (λ v. n + v) o

  pub raised_used : (raised n o).used ≡ o.used
  unfolding raised mapped
  raised_used = refl

  -- as the code adds it, where the sum has 32 bits
  pub raised_exact : (o.refusal ≡ answered → n + o.value < 2 ^ 32) → raised_modulo n o ≡ raised n o
  unfolding raised raised_modulo mapped
  raised_exact small = rw (worked_same (λ v. (n + v) % 2 ^ 32) (λ v. n + v) o.value o (λ a. mod-eq_of_lt (small a)))

-- ---- a refusal

-- "Every refusal gives its number, value 0 and 0 words used" (document 01): these are all that it tells.
pub refused_whole : (o : Outcome) → o.used ≡ 0 → o.value ≡ 0 → o ≡ refused o.refusal
refused_whole o none zero = rw (none, zero)
