-- Each promise leaves one answer: two that both meet it are equal.
use Rattle.std.specs.Prelude.{List, ◌≡◌, ℕ}
use Rattle.std.proofs.Common.{sym, ◌∙◌}
use Rattle.random.specs.LentLaws.{joined_apart}
use Rattle.random.specs.declared.engine.Engine.{Engine}
use Rattle.ahead.specs.Promises.{WordsInPromise}

-- One engine, one table and one list.
pub one_words_in : (e : Engine) (mt list : List ℕ) {a b : Engine} {mt₁ mt₂ : List ℕ} {list₁ list₂ : List ℕ}
    → WordsInPromise e mt list a mt₁ list₁ → WordsInPromise e mt list b mt₂ list₂ → (a ≡ b) × (mt₁ ≡ mt₂) × (list₁ ≡ list₂)
one_words_in e mt list p q = let (engine, table) = joined_apart (p.1 ∙ sym q.1) in (engine, table, p.0 ∙ sym q.0)
