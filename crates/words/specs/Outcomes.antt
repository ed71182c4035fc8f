-- What a call does to the value that it drew, as functions of outcomes. They know neither words nor generator, so every source of words
-- has them.
use Rattle.std.specs.Prelude.{cond, ℕ, ◌+◌, ◌%◌, ◌^◌, eqb}
use Rattle.words.specs.declared.outcome.Outcome.{Outcome}
use Rattle.words.specs.Refusal.{answered}

-- The value of an answered outcome, worked on by f; and z where it is refused.
unfoldable pub worked_on : {A : Type 0} → (ℕ → A) → A → Outcome → A
worked_on f z o = cond (eqb o.refusal answered) (f o.value) z

-- An outcome whose value is worked on by f; a refusal stays as it is.
unfoldable pub mapped : (ℕ → ℕ) → Outcome → Outcome
mapped f o = record { refusal = o.refusal; value = worked_on f o.value o; used = o.used }

-- n added to the value,
unfoldable pub raised : ℕ → Outcome → Outcome
raised n = mapped (λ v. n + v)

-- and as code of 32 bits adds it.
unfoldable pub raised_modulo : ℕ → Outcome → Outcome
raised_modulo n = mapped (λ v. (n + v) % 2 ^ 32)
