-- Each promise leaves one answer: two that both meet it are equal.
use Rattle.std.specs.Prelude.{List, Option, ◌≡◌, ℕ}
use Rattle.std.proofs.Common.{sym, ◌∙◌, ap, ap₂}
use Rattle.mersenne_twister.specs.declared.MersenneTwister.{MersenneTwister}
use Rattle.pcg.specs.declared.pcg32.Pcg32.{Pcg32}
use Rattle.pcg.specs.declared.pcg64.Pcg64.{Pcg64}
use Rattle.random.specs.LentLaws.{joined_apart}
use Rattle.random.specs.declared.backend.Random.{Random}
use Rattle.random.specs.declared.engine.Engine.{Engine}
use Rattle.wrapping.specs.declared.wide.Wide.{Wide}
use Rattle.xoshiro.specs.declared.Xoshiro256PlusPlus.{Xoshiro256PlusPlus}
use Rattle.making.specs.Promises.{FromMersenneTwisterPromise, FromPcg32Promise, FromPcg64Promise, FromU64SeedPromise}
use Rattle.making.specs.Promises.{FromXoshiroPromise, MakePromise, NewMersenneTwisterWithSeedPromise, NewPcg32WithSeedPromise}
use Rattle.making.specs.Promises.{NewPcg32WithStreamPromise, NewPcg64WithSeedPromise, NewPcg64WithStreamPromise, MakingSeedInPromise}
use Rattle.making.specs.Promises.{SeedPromise, ZerosPromise}
use Rattle.making.specs.Make.{Made, making_of}
use Rattle.making.specs.declared.bytes.Made as code
use Rattle.words.specs.NumbersLaws.{checks_apart}
use Rattle.words.specs.declared.refusal.Refusal.{Refusal}

pub one_make : (kind : ℕ) (seed : List ℕ) {a b : Made} → MakePromise kind seed a → MakePromise kind seed b → a ≡ b
one_make kind seed p q = p ∙ sym q

-- Two makings of the code that say the same in document 01's numbers are the same.
pub made_same : (a b : code.Made) → making_of a ≡ making_of b → a ≡ b
made_same a b h =
    ap₂ (λ (r : Option Refusal) (g : Random). record { refusal = r; generator = g })
    (checks_apart a.refusal b.refusal (ap (λ (m : Made). m.refusal) h)) (ap (λ (m : Made). m.generator) h)

pub one_from_xoshiro : (x : Xoshiro256PlusPlus) {a b : Random} → FromXoshiroPromise x a → FromXoshiroPromise x b → a ≡ b
one_from_xoshiro x p q = p ∙ sym q

pub one_from_mersenne_twister : (twister : MersenneTwister) {a b : Random}
    → FromMersenneTwisterPromise twister a → FromMersenneTwisterPromise twister b → a ≡ b
one_from_mersenne_twister twister p q = p ∙ sym q

pub one_from_pcg32 : (p : Pcg32) {a b : Random} → FromPcg32Promise p a → FromPcg32Promise p b → a ≡ b
one_from_pcg32 p h k = h ∙ sym k

pub one_from_pcg64 : (p : Pcg64) {a b : Random} → FromPcg64Promise p a → FromPcg64Promise p b → a ≡ b
one_from_pcg64 p h k = h ∙ sym k

pub one_zeros : {a b : Random} → ZerosPromise a → ZerosPromise b → a ≡ b
one_zeros p q = p ∙ sym q

pub one_from_u64_seed : (seed : ℕ) {a b : Random} → FromU64SeedPromise seed a → FromU64SeedPromise seed b → a ≡ b
one_from_u64_seed seed p q = p ∙ sym q

pub one_new_mersenne_twister_with_seed : (seed : ℕ) {a b : Random}
    → NewMersenneTwisterWithSeedPromise seed a → NewMersenneTwisterWithSeedPromise seed b → a ≡ b
one_new_mersenne_twister_with_seed seed p q = p ∙ sym q

pub one_new_pcg32_with_seed : (seed : ℕ) {a b : Random} → NewPcg32WithSeedPromise seed a → NewPcg32WithSeedPromise seed b → a ≡ b
one_new_pcg32_with_seed seed p q = p ∙ sym q

pub one_new_pcg64_with_seed : (seed : Wide) {a b : Random} → NewPcg64WithSeedPromise seed a → NewPcg64WithSeedPromise seed b → a ≡ b
one_new_pcg64_with_seed seed p q = p ∙ sym q

pub one_new_pcg32_with_stream : (seed stream : ℕ) {a b : Random}
    → NewPcg32WithStreamPromise seed stream a → NewPcg32WithStreamPromise seed stream b → a ≡ b
one_new_pcg32_with_stream seed stream p q = p ∙ sym q

pub one_new_pcg64_with_stream : (seed stream : Wide) {a b : Random}
    → NewPcg64WithStreamPromise seed stream a → NewPcg64WithStreamPromise seed stream b → a ≡ b
one_new_pcg64_with_stream seed stream p q = p ∙ sym q

pub one_making_seed_in : (e : Engine) (mt : List ℕ) (seed : ℕ) {a b : Engine} {mt₁ mt₂ : List ℕ}
    → MakingSeedInPromise e mt seed a mt₁ → MakingSeedInPromise e mt seed b mt₂ → (a ≡ b) × (mt₁ ≡ mt₂)
one_making_seed_in e mt seed p q = joined_apart (p ∙ sym q)

pub one_seed : (g : Random) (seed : ℕ) {a b : Random} → SeedPromise g seed a → SeedPromise g seed b → a ≡ b
one_seed g seed p q = p ∙ sym q
