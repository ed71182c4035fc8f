-- The promise leaves one answer, one state and one table: two that both meet it are equal.
use Rattle.std.specs.Prelude.{◌≡◌, ℕ, List}
use Rattle.std.proofs.Common.{sym, ◌∙◌}
use Rattle.lent_state.specs.AnswersLaws.{told_apart}
use Rattle.bench_lent.specs.declared.lent_loops.Sums.{Sums}
use Rattle.bench_lent.specs.Promises.{BenchDrawsInPromise}

pub one_bench_draws_in : (s t : List ℕ) {s₁ s₂ t₁ t₂ : List ℕ} (r budget n : ℕ) {a b : Sums}
    → BenchDrawsInPromise s t r budget n a s₁ t₁ → BenchDrawsInPromise s t r budget n b s₂ t₂ → (a ≡ b) × (s₁ ≡ s₂) × (t₁ ≡ t₂)
one_bench_draws_in s t r budget n p q = told_apart (p ∙ sym q)
