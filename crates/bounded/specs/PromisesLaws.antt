-- Each promise leaves one answer: two that both meet it are equal.
use Rattle.std.specs.Prelude.{List, ◌≡◌, ℕ}
use Rattle.std.proofs.Common.{sym, ◌∙◌}
use Rattle.random.specs.Lent.{joined_with}
use Rattle.random.specs.declared.backend.Random.{Random}
use Rattle.random.specs.declared.engine.Engine.{Engine}
use Rattle.words.specs.declared.outcome.Outcome.{Outcome}
use Rattle.bounded.specs.OneAnswer.{answer_apart}
use Rattle.bounded.specs.Promises.{AcceptInPromise, AnswerInPromise, BoundedInPromise, BoundedPromise, CharInPromise}
use Rattle.bounded.specs.Promises.{CharPromise, JoinedPromise, OutcomeOfPromise, RandomRangeInPromise, RandomRangePromise}
use Rattle.bounded.specs.Promises.{ByValuePromise, RefuseInPromise}
use Rattle.words.specs.declared.reply.Reply.{Reply}
use Rattle.bounded.specs.declared.answers.Answer.{Answer}

pub one_answer_in : (o : Outcome) (next : Engine) {a b : Answer Engine} → AnswerInPromise o next a → AnswerInPromise o next b → a ≡ b
one_answer_in o next p q = p ∙ sym q

pub one_outcome_of : (a : Answer Engine) {o o' : Outcome} → OutcomeOfPromise a o → OutcomeOfPromise a o' → o ≡ o'
one_outcome_of a p q = p ∙ sym q

pub one_refuse_in : (number : ℕ) (e : Engine) {a b : Answer Engine} → RefuseInPromise number e a → RefuseInPromise number e b → a ≡ b
one_refuse_in number e p q = p ∙ sym q

pub one_accept_in : (value used : ℕ) (next : Engine) {a b : Answer Engine}
    → AcceptInPromise value used next a → AcceptInPromise value used next b → a ≡ b
one_accept_in value used next p q = p ∙ sym q

pub one_joined : (a : Answer Engine) (mt : List ℕ) {r r' : Answer Random} → JoinedPromise a mt r → JoinedPromise a mt r' → r ≡ r'
one_joined a mt p q = p ∙ sym q

pub one_by_value : {T : Type 0} (a : Reply T Engine) (mt : List ℕ) {r r' : Reply T Random}
    → ByValuePromise a mt r → ByValuePromise a mt r' → r ≡ r'
one_by_value a mt p q = p ∙ sym q

pub one_bounded : (g : Random) (r budget : ℕ) {a b : Answer Random} → BoundedPromise g r budget a → BoundedPromise g r budget b → a ≡ b
one_bounded g r budget p q = p ∙ sym q

pub one_bounded_in : (e : Engine) (mt : List ℕ) (r budget : ℕ) {a b : Answer Engine} {mt₁ mt₂ : List ℕ}
    → BoundedInPromise e mt r budget a mt₁ → BoundedInPromise e mt r budget b mt₂ → (a ≡ b) × (mt₁ ≡ mt₂)
one_bounded_in e mt r budget p q = answer_apart (one_bounded (joined_with e mt) r budget p q)

pub one_random_range : (g : Random) (min max budget : ℕ) {a b : Answer Random}
    → RandomRangePromise g min max budget a → RandomRangePromise g min max budget b → a ≡ b
one_random_range g min max budget p q = p ∙ sym q

pub one_random_range_in : (e : Engine) (mt : List ℕ) (min max budget : ℕ) {a b : Answer Engine} {mt₁ mt₂ : List ℕ}
    → RandomRangeInPromise e mt min max budget a mt₁ → RandomRangeInPromise e mt min max budget b mt₂ → (a ≡ b) × (mt₁ ≡ mt₂)
one_random_range_in e mt min max budget p q = answer_apart (one_random_range (joined_with e mt) min max budget p q)

pub one_char : (g : Random) (budget : ℕ) {a b : Answer Random} → CharPromise g budget a → CharPromise g budget b → a ≡ b
one_char g budget p q = p ∙ sym q

pub one_char_in : (e : Engine) (mt : List ℕ) (budget : ℕ) {a b : Answer Engine} {mt₁ mt₂ : List ℕ}
    → CharInPromise e mt budget a mt₁ → CharInPromise e mt budget b mt₂ → (a ≡ b) × (mt₁ ≡ mt₂)
one_char_in e mt budget p q = answer_apart (one_char (joined_with e mt) budget p q)
