-- Each promise leaves one answer: two that both meet it are equal.
use Rattle.std.specs.Prelude.{List, ◌≡◌, ℕ, ℤ}
use Rattle.std.proofs.Common.{sym, ◌∙◌}
use Rattle.bounded.specs.OneAnswer.{answer_apart}
use Rattle.bounded.specs.declared.answers.Answer.{Answer}
use Rattle.random.specs.Lent.{joined_with}
use Rattle.random.specs.declared.backend.Random.{Random}
use Rattle.random.specs.declared.engine.Engine.{Engine}
use Rattle.spans.specs.OneIntAnswer.{int_answer_apart}
use Rattle.spans.specs.Promises.{IntInPromise, IntPromise, RangeInPromise, RangePromise, UintInPromise, UintPromise}
use Rattle.spans.specs.Promises.{CountedPromise}
use Rattle.words.specs.declared.outcome.Outcome.{Outcome}
use Rattle.spans.specs.declared.counting.IntOutcome.{IntOutcome}
use Rattle.spans.specs.IntAnswers.{IntAnswer}

pub one_counted : (min : ℤ) (o : Outcome) {a b : IntOutcome} → CountedPromise min o a → CountedPromise min o b → a ≡ b
one_counted min o p q = p ∙ sym q

pub one_int : (g : Random) (min max : ℤ) (budget : ℕ) {a b : IntAnswer Random}
    → IntPromise g min max budget a → IntPromise g min max budget b → a ≡ b
one_int g min max budget p q = p ∙ sym q

pub one_int_in : (e : Engine) (mt : List ℕ) (min max : ℤ) (budget : ℕ) {a b : IntAnswer Engine} {mt₁ mt₂ : List ℕ}
    → IntInPromise e mt min max budget a mt₁ → IntInPromise e mt min max budget b mt₂ → (a ≡ b) × (mt₁ ≡ mt₂)
one_int_in e mt min max budget p q = int_answer_apart (one_int (joined_with e mt) min max budget p q)

pub one_range_in : (e : Engine) (mt : List ℕ) (min max : ℤ) (budget : ℕ) {a b : IntAnswer Engine} {mt₁ mt₂ : List ℕ}
    → RangeInPromise e mt min max budget a mt₁ → RangeInPromise e mt min max budget b mt₂ → (a ≡ b) × (mt₁ ≡ mt₂)
one_range_in e mt min max budget p q = one_int_in e mt min max budget p q

pub one_range : (g : Random) (min max : ℤ) (budget : ℕ) {a b : IntAnswer Random}
    → RangePromise g min max budget a → RangePromise g min max budget b → a ≡ b
one_range g min max budget p q = p ∙ sym q

pub one_uint : (g : Random) (min max budget : ℕ) {a b : Answer Random}
    → UintPromise g min max budget a → UintPromise g min max budget b → a ≡ b
one_uint g min max budget p q = p ∙ sym q

pub one_uint_in : (e : Engine) (mt : List ℕ) (min max budget : ℕ) {a b : Answer Engine} {mt₁ mt₂ : List ℕ}
    → UintInPromise e mt min max budget a mt₁ → UintInPromise e mt min max budget b mt₂ → (a ≡ b) × (mt₁ ≡ mt₂)
one_uint_in e mt min max budget p q = answer_apart (one_uint (joined_with e mt) min max budget p q)
