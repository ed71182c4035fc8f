-- Each promise leaves one answer: two that both meet it are equal.
use Rattle.std.specs.Prelude.{◌≡◌, ℕ, List}
use Rattle.std.proofs.Common.{sym, ◌∙◌, ap}
use Rattle.mersenne_twister.specs.Promises.{FromSeedInPromise, NextU64InPromise, RandInPromise, SeedInPromise}
use Rattle.mersenne_twister.specs.Promises.{StoredPositionPromise, TemperWordPromise, TwistInPromise, TwisterFromPartsPromise}
use Rattle.mersenne_twister.specs.Promises.{TwisterFromSeedPromise, TwisterFromU32SeedPromise, TwisterMtiPromise}
use Rattle.mersenne_twister.specs.Promises.{TwisterNextU64Promise, TwisterRandPromise, TwisterSeedPromise, TwisterSetMtiPromise}
use Rattle.mersenne_twister.specs.Promises.{TwisterTwistPromise}
use Rattle.mersenne_twister.specs.Table.{held, stepped}
use Rattle.source.specs.declared.Drawn.{Drawn}
use Rattle.mersenne_twister.specs.declared.MersenneTwister.{MersenneTwister}
use Rattle.mersenne_twister.specs.declared.table.Step.{Step}

-- ---- what a call over a lent table tells is its answer and that table

held_apart : {m n : List ℕ} {i j : ℕ} → held m i ≡ held n j → (i ≡ j) × (m ≡ n)
held_apart h = (ap (λ (x : MersenneTwister). x.mti) h, ap (λ (x : MersenneTwister). x.mt) h)

pub step_apart : {r s : Step ℕ} {m n : List ℕ} → stepped r m ≡ stepped s n → (r ≡ s) × (m ≡ n)
step_apart h = (ap answer h, ap (λ (x : Drawn ℕ MersenneTwister). x.next.mt) h)
  where
    answer : Drawn ℕ MersenneTwister → Step ℕ
    answer x = record { word = x.word; mti = x.next.mti }

-- ---- one answer

pub one_twister_from_u32_seed : (seed : ℕ) {a b : MersenneTwister}
    → TwisterFromU32SeedPromise seed a → TwisterFromU32SeedPromise seed b → a ≡ b
one_twister_from_u32_seed seed p q = p ∙ sym q

pub one_twister_from_seed : (seed : List ℕ) {a b : MersenneTwister} → TwisterFromSeedPromise seed a → TwisterFromSeedPromise seed b → a ≡ b
one_twister_from_seed seed p q = p ∙ sym q

pub one_twister_seed : (seed : ℕ) {a b : MersenneTwister} → TwisterSeedPromise seed a → TwisterSeedPromise seed b → a ≡ b
one_twister_seed seed p q = p ∙ sym q

pub one_twister_from_parts : (mt : List ℕ) (mti : ℕ) {a b : MersenneTwister}
    → TwisterFromPartsPromise mt mti a → TwisterFromPartsPromise mt mti b → a ≡ b
one_twister_from_parts mt mti p q = p ∙ sym q

pub one_twister_rand : (self : MersenneTwister) {a b : Drawn ℕ MersenneTwister}
    → TwisterRandPromise self a → TwisterRandPromise self b → a ≡ b
one_twister_rand self p q = p ∙ sym q

pub one_twister_next_u64 : (self : MersenneTwister) {a b : Drawn ℕ MersenneTwister}
    → TwisterNextU64Promise self a → TwisterNextU64Promise self b → a ≡ b
one_twister_next_u64 self p q = p ∙ sym q

pub one_twister_twist : (self : MersenneTwister) {a b : MersenneTwister} → TwisterTwistPromise self a → TwisterTwistPromise self b → a ≡ b
one_twister_twist self p q = p ∙ sym q

pub one_twister_mti : (self : MersenneTwister) {a b : ℕ} → TwisterMtiPromise self a → TwisterMtiPromise self b → a ≡ b
one_twister_mti self p q = p ∙ sym q

pub one_twister_set_mti : (self : MersenneTwister) (value : ℕ) {a b : MersenneTwister}
    → TwisterSetMtiPromise self value a → TwisterSetMtiPromise self value b → a ≡ b
one_twister_set_mti self value p q = p ∙ sym q

pub one_stored_position : (value : ℕ) {a b : ℕ} → StoredPositionPromise value a → StoredPositionPromise value b → a ≡ b
one_stored_position value p q = p ∙ sym q

pub one_seed_in : (mt : List ℕ) (seed : ℕ) {a b : ℕ} {mt₁ mt₂ : List ℕ}
    → SeedInPromise mt seed a mt₁ → SeedInPromise mt seed b mt₂ → (a ≡ b) × (mt₁ ≡ mt₂)
one_seed_in mt seed p q = held_apart (p ∙ sym q)

pub one_from_seed_in : (mt seed : List ℕ) {a b : ℕ} {mt₁ mt₂ : List ℕ}
    → FromSeedInPromise mt seed a mt₁ → FromSeedInPromise mt seed b mt₂ → (a ≡ b) × (mt₁ ≡ mt₂)
one_from_seed_in mt seed p q = held_apart (p ∙ sym q)

pub one_twist_in : (mt : List ℕ) {a b : ℕ} {mt₁ mt₂ : List ℕ} → TwistInPromise mt a mt₁ → TwistInPromise mt b mt₂ → (a ≡ b) × (mt₁ ≡ mt₂)
one_twist_in mt p q = held_apart (p ∙ sym q)

pub one_rand_in : (mt : List ℕ) (mti : ℕ) {a b : Step ℕ} {mt₁ mt₂ : List ℕ}
    → RandInPromise mt mti a mt₁ → RandInPromise mt mti b mt₂ → (a ≡ b) × (mt₁ ≡ mt₂)
one_rand_in mt mti p q = step_apart (p ∙ sym q)

pub one_next_u64_in : (mt : List ℕ) (mti : ℕ) {a b : Step ℕ} {mt₁ mt₂ : List ℕ}
    → NextU64InPromise mt mti a mt₁ → NextU64InPromise mt mti b mt₂ → (a ≡ b) × (mt₁ ≡ mt₂)
one_next_u64_in mt mti p q = step_apart (p ∙ sym q)

pub one_temper_word : (x : ℕ) {a b : ℕ} → TemperWordPromise x a → TemperWordPromise x b → a ≡ b
one_temper_word x p q = p ∙ sym q
