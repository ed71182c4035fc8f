-- Each promise leaves one answer: two that both meet it are equal, and so are the tables and the lists that they leave.
use Rattle.std.specs.Prelude.{List, ◌≡◌, ℕ}
use Rattle.std.proofs.Common.{sym, ◌∙◌}
use Rattle.bounded.specs.OneAnswer.{answer_apart}
use Rattle.bounded.specs.declared.answers.Answer.{Answer}
use Rattle.random.specs.LentLaws.{joined_apart}
use Rattle.random.specs.declared.backend.Random.{Random}
use Rattle.random.specs.declared.engine.Engine.{Engine}
use Rattle.words.specs.declared.outcome.Outcome.{Outcome}
use Rattle.shuffle.specs.Promises.{OutcomeInPromise, OutcomeInTablePromise, PerformInPromise}
use Rattle.shuffle.specs.Promises.{ShuffleInPromise, ShufflePromise, SwapPromise}

-- One answer and one list.
pub one_shuffle : (g : Random) (list : List ℕ) (budget : ℕ) {a b : Answer Random} {list₁ list₂ : List ℕ}
    → ShufflePromise g list budget a list₁ → ShufflePromise g list budget b list₂ → (a ≡ b) × (list₁ ≡ list₂)
one_shuffle g list budget p q = (p.0 ∙ sym q.0, p.1 ∙ sym q.1)

-- One answer, one table and one list.
pub one_shuffle_in : (e : Engine) (mt list : List ℕ) (budget : ℕ) {a b : Answer Engine} {mt₁ mt₂ list₁ list₂ : List ℕ}
    → ShuffleInPromise e mt list budget a mt₁ list₁ → ShuffleInPromise e mt list budget b mt₂ list₂
    → (a ≡ b) × (mt₁ ≡ mt₂) × (list₁ ≡ list₂)
one_shuffle_in e mt list budget p q =
    let (answer, table) = answer_apart (p.0 ∙ sym q.0) in
    (answer, table, p.1 ∙ sym q.1)

-- One outcome,
pub one_outcome_in : (e : Engine) (mt : List ℕ) (n budget : ℕ) {a b : Outcome}
    → OutcomeInPromise e mt n budget a → OutcomeInPromise e mt n budget b → a ≡ b
one_outcome_in e mt n budget p q = p ∙ sym q

-- and one table.
pub one_outcome_in_table : (mt : List ℕ) {mt₁ mt₂ : List ℕ} → OutcomeInTablePromise mt mt₁ → OutcomeInTablePromise mt mt₂ → mt₁ ≡ mt₂
one_outcome_in_table mt p q = p ∙ sym q

-- One engine, one table and one list.
pub one_perform_in : (e : Engine) (mt list : List ℕ) (budget : ℕ) {a b : Engine} {mt₁ mt₂ list₁ list₂ : List ℕ}
    → PerformInPromise e mt list budget a mt₁ list₁ → PerformInPromise e mt list budget b mt₂ list₂
    → (a ≡ b) × (mt₁ ≡ mt₂) × (list₁ ≡ list₂)
one_perform_in e mt list budget p q =
    let (engine, table) = joined_apart (p.0 ∙ sym q.0) in
    (engine, table, p.1 ∙ sym q.1)

-- One list.
pub one_swap : (list : List ℕ) (i j : ℕ) {list₁ list₂ : List ℕ} → SwapPromise list i j list₁ → SwapPromise list i j list₂ → list₁ ≡ list₂
one_swap list i j p q = p ∙ sym q
