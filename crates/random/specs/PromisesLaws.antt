-- Each promise leaves one answer: two that both meet it are equal.
use Rattle.std.specs.Prelude.{Bool, List, ◌≡◌, refl, ℕ, ◌<◌, ℤ, Result, Ok, Err}
use Rattle.std.proofs.Common.{sym, ◌∙◌, ap, arith}
use Rattle.random.specs.declared.kind.Kind.{Kind}
use Rattle.random.specs.declared.kind.Kind.TheVariants as kind
use Rattle.random.specs.declared.kind.UnknownKind.{UnknownKind}
use Rattle.random.specs.Kinds.{number_of, Named}
use Rattle.random.specs.Promises.{BackendKindPromise, KindNumberPromise}
use Rattle.random.specs.LentLaws.{word_apart}
use Rattle.random.specs.Promises.{EngineOfPromise, EngineWithPromise, I64Promise, NextOwnPromise, NextReadyPromise}
use Rattle.random.specs.Promises.{NextU32Promise, NextU64Promise, OnTablePromise, PseudoInPromise, PseudoPromise}
use Rattle.random.specs.Promises.{RandPromise, SurelyReadyPromise, U64Promise, WidthPromise, WithTablePromise}
use Rattle.random.specs.declared.backend.Backend.{Backend}
use Rattle.random.specs.declared.backend.Random.{Random}
use Rattle.source.specs.declared.Drawn.{Drawn}
use Rattle.random.specs.declared.engine.Engine.{Engine}

pub one_engine_of : (g : Random) {a b : Engine} → EngineOfPromise g a → EngineOfPromise g b → a ≡ b
one_engine_of g p q = p ∙ sym q

pub one_with_table : (e : Engine) (mt : List ℕ) {a b : Random} → WithTablePromise e mt a → WithTablePromise e mt b → a ≡ b
one_with_table e mt p q = p ∙ sym q

pub one_rand : (g : Random) {a b : Drawn ℕ Random} → RandPromise g a → RandPromise g b → a ≡ b
one_rand g p q = p ∙ sym q

pub one_u64 : (g : Random) {a b : Drawn ℕ Random} → U64Promise g a → U64Promise g b → a ≡ b
one_u64 g p q = p ∙ sym q

pub one_i64 : (g : Random) {a b : Drawn ℤ Random} → I64Promise g a → I64Promise g b → a ≡ b
one_i64 g p q = p ∙ sym q

pub one_pseudo : (g : Random) {a b : Drawn ℕ Random} → PseudoPromise g a → PseudoPromise g b → a ≡ b
one_pseudo g p q = p ∙ sym q

pub one_engine_with : (backend : Backend) (mti : ℕ) {a b : Engine}
    → EngineWithPromise backend mti a → EngineWithPromise backend mti b → a ≡ b
one_engine_with backend mti p q = p ∙ sym q

pub one_next_u32 : (e : Engine) (mt : List ℕ) {a b : Drawn ℕ Engine} {mt₁ mt₂ : List ℕ}
    → NextU32Promise e mt a mt₁ → NextU32Promise e mt b mt₂ → (a ≡ b) × (mt₁ ≡ mt₂)
one_next_u32 e mt p q = word_apart (p ∙ sym q)

pub one_next_u64 : (e : Engine) (mt : List ℕ) {a b : Drawn ℕ Engine} {mt₁ mt₂ : List ℕ}
    → NextU64Promise e mt a mt₁ → NextU64Promise e mt b mt₂ → (a ≡ b) × (mt₁ ≡ mt₂)
one_next_u64 e mt p q = word_apart (p ∙ sym q)

pub one_width : (backend : Backend) {a b : ℕ} → WidthPromise backend a → WidthPromise backend b → a ≡ b
one_width backend p q = p ∙ sym q

pub one_next_own : (e : Engine) (mt : List ℕ) {a b : Drawn ℕ Engine} {mt₁ mt₂ : List ℕ}
    → NextOwnPromise e mt a mt₁ → NextOwnPromise e mt b mt₂ → (a ≡ b) × (mt₁ ≡ mt₂)
one_next_own e mt p q = word_apart (p ∙ sym q)

pub one_pseudo_in : (e : Engine) (mt : List ℕ) {a b : Drawn ℕ Engine} {mt₁ mt₂ : List ℕ}
    → PseudoInPromise e mt a mt₁ → PseudoInPromise e mt b mt₂ → (a ≡ b) × (mt₁ ≡ mt₂)
one_pseudo_in e mt p q = word_apart (p ∙ sym q)

pub one_next_ready : (e : Engine) (mt : List ℕ) {a b : Drawn ℕ Engine} → NextReadyPromise e mt a → NextReadyPromise e mt b → a ≡ b
one_next_ready e mt p q = (word_apart (p ∙ sym q)).0

pub one_surely_ready : (e : Engine) {a b : Bool} → SurelyReadyPromise e a → SurelyReadyPromise e b → a ≡ b
one_surely_ready e p q = p ∙ sym q

pub one_on_table : (backend : Backend) {a b : Bool} → OnTablePromise backend a → OnTablePromise backend b → a ≡ b
one_on_table backend p q = p ∙ sym q

pub one_kind_number : (k : Kind) {a b : ℕ} → KindNumberPromise k a → KindNumberPromise k b → a ≡ b
one_kind_number k p q = p ∙ sym q

-- four kinds, four numbers
pub kind_of_one_number : (k l : Kind) → number_of k ≡ number_of l → k ≡ l
kind_of_one_number kind.Xoshiro256PlusPlus kind.Xoshiro256PlusPlus h = refl
kind_of_one_number kind.Xoshiro256PlusPlus kind.MersenneTwister h = absurd (omega (arith, h))
kind_of_one_number kind.Xoshiro256PlusPlus kind.Pcg32 h = absurd (omega (arith, h))
kind_of_one_number kind.Xoshiro256PlusPlus kind.Pcg64 h = absurd (omega (arith, h))
kind_of_one_number kind.MersenneTwister kind.Xoshiro256PlusPlus h = absurd (omega (arith, h))
kind_of_one_number kind.MersenneTwister kind.MersenneTwister h = refl
kind_of_one_number kind.MersenneTwister kind.Pcg32 h = absurd (omega (arith, h))
kind_of_one_number kind.MersenneTwister kind.Pcg64 h = absurd (omega (arith, h))
kind_of_one_number kind.Pcg32 kind.Xoshiro256PlusPlus h = absurd (omega (arith, h))
kind_of_one_number kind.Pcg32 kind.MersenneTwister h = absurd (omega (arith, h))
kind_of_one_number kind.Pcg32 kind.Pcg32 h = refl
kind_of_one_number kind.Pcg32 kind.Pcg64 h = absurd (omega (arith, h))
kind_of_one_number kind.Pcg64 kind.Xoshiro256PlusPlus h = absurd (omega (arith, h))
kind_of_one_number kind.Pcg64 kind.MersenneTwister h = absurd (omega (arith, h))
kind_of_one_number kind.Pcg64 kind.Pcg32 h = absurd (omega (arith, h))
kind_of_one_number kind.Pcg64 kind.Pcg64 h = refl

kind_below_four : (k : Kind) → number_of k < 4
kind_below_four kind.Xoshiro256PlusPlus = omega arith
kind_below_four kind.MersenneTwister = omega arith
kind_below_four kind.Pcg32 = omega arith
kind_below_four kind.Pcg64 = omega arith

-- what a number names: a kind, or none
pub one_named : (n : ℕ) (a b : Result Kind UnknownKind) → Named n a → Named n b → a ≡ b
one_named n (Ok k) (Ok l) p q = ap Ok (kind_of_one_number k l (p ∙ sym q))
one_named n (Ok k) (Err e) p q = absurd (omega (arith, kind_below_four k, p, q.1))
one_named n (Err e) (Ok k) p q = absurd (omega (arith, kind_below_four k, q, p.1))
one_named n (Err e) (Err f) p q = ap (λ (x : ℕ). Err (record { 0 = x })) (p.0 ∙ sym q.0)

pub one_backend_kind : (b : Backend) {k l : Kind} → BackendKindPromise b k → BackendKindPromise b l → k ≡ l
one_backend_kind b p q = p ∙ sym q
