-- Each promise leaves one possible answer, or one state.
use Rattle.std.specs.Prelude.{ℕ, List, Option, ◌≡◌}
use Rattle.std.proofs.Common.{sym, ◌∙◌, ap, ap₂}
use Rattle.pcg.specs.declared.pcg32.Pcg32.{Pcg32}
use Rattle.pcg.specs.declared.pcg64.Pcg64.{Pcg64}
use Rattle.xoshiro.specs.declared.Xoshiro256PlusPlus.{Xoshiro256PlusPlus}
use Rattle.random.specs.declared.backend.Random.{Random}
use Rattle.random.specs.declared.engine.Engine.{Engine}
use Rattle.words.specs.NumbersLaws.{checks_apart}
use Rattle.words.specs.declared.refusal.Refusal.{Refusal}
use Rattle.lent_state.specs.State.{Held, held_numbers}
use Rattle.lent_state.specs.declared.reading.Held as code
use Rattle.lent_state.specs.Promises.{PositionPromise, XoshiroInPromise, Pcg32InPromise, Pcg64InPromise, HeldInPromise}
use Rattle.lent_state.specs.Promises.{PutSmallPromise, PutPositionPromise, WritePromise, LentSettlePromise, LentBeginPromise}
use Rattle.lent_state.specs.Promises.{LentPlacePromise}
use Rattle.lent_state.specs.AnswersLaws.{told_apart}

module _ (s : List ℕ) where
  pub one_position : {a b : ℕ} → PositionPromise s a → PositionPromise s b → a ≡ b
  one_position p q = p ∙ sym q

  pub one_xoshiro_in : {a b : Xoshiro256PlusPlus} → XoshiroInPromise s a → XoshiroInPromise s b → a ≡ b
  one_xoshiro_in p q = p ∙ sym q

  pub one_pcg32_in : {a b : Pcg32} → Pcg32InPromise s a → Pcg32InPromise s b → a ≡ b
  one_pcg32_in p q = p ∙ sym q

  pub one_pcg64_in : {a b : Pcg64} → Pcg64InPromise s a → Pcg64InPromise s b → a ≡ b
  one_pcg64_in p q = p ∙ sym q

  pub one_held_in : {a b : Held} → HeldInPromise s a → HeldInPromise s b → a ≡ b
  one_held_in p q = p ∙ sym q

-- Two readings of the code that say the same in document 01's numbers are the same.
pub held_same : (a b : code.Held) → held_numbers a ≡ held_numbers b → a ≡ b
held_same a b h =
    ap₂ (λ (r : Option Refusal) (e : Engine). record { refusal = r; engine = e })
    (checks_apart a.refusal b.refusal (ap (λ (m : Held). m.refusal) h)) (ap (λ (m : Held). m.engine) h)

module _ (s : List ℕ) {s₁ s₂ : List ℕ} where
  pub one_put_small : (a b c d : ℕ) → PutSmallPromise s a b c d s₁ → PutSmallPromise s a b c d s₂ → s₁ ≡ s₂
  one_put_small a b c d p q = p ∙ sym q

  pub one_put_position : (mti : ℕ) → PutPositionPromise s mti s₁ → PutPositionPromise s mti s₂ → s₁ ≡ s₂
  one_put_position mti p q = p ∙ sym q

  pub one_write : (e : Engine) → WritePromise e s s₁ → WritePromise e s s₂ → s₁ ≡ s₂
  one_write e p q = p ∙ sym q

  pub one_lent_settle : (refused : ℕ) (e : Engine) → LentSettlePromise refused e s s₁ → LentSettlePromise refused e s s₂ → s₁ ≡ s₂
  one_lent_settle refused e p q = p ∙ sym q

pub one_lent_begin : (e : Engine) {s₁ s₂ : List ℕ} → LentBeginPromise e s₁ → LentBeginPromise e s₂ → s₁ ≡ s₂
one_lent_begin e p q = p ∙ sym q

pub one_lent_place : (refused : ℕ) (g : Random) (s t : List ℕ) {a b : ℕ} {s₁ s₂ t₁ t₂ : List ℕ}
    → LentPlacePromise refused g s t a s₁ t₁ → LentPlacePromise refused g s t b s₂ t₂ → (a ≡ b) × (s₁ ≡ s₂) × (t₁ ≡ t₂)
one_lent_place refused g s t p q = told_apart (p ∙ sym q)
