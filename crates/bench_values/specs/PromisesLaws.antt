-- Each promise leaves one answer, one state and one table: two that both meet it are equal.
use Rattle.std.specs.Prelude.{◌≡◌, ℕ, List}
use Rattle.std.proofs.Common.{sym, ◌∙◌}
use Rattle.lent_state.specs.AnswersLaws.{told_apart}
use Rattle.bench_lent.specs.PromisesLaws.{one_bench_draws_in}
use Rattle.bench_lent.specs.declared.lent_loops.Sums.{Sums}
use Rattle.bench_values.specs.declared.value_loops.Xored.{Xored}
use Rattle.bench_values.specs.Promises.{BenchDrawsByValuePromise, BenchWordsByValuePromise}

module _ (s t : List ℕ) {s₁ s₂ t₁ t₂ : List ℕ} where
  pub one_bench_words_by_value : (n : ℕ) {a b : Xored} → BenchWordsByValuePromise s t n a s₁ t₁ → BenchWordsByValuePromise s t n b s₂ t₂
      → (a ≡ b) × (s₁ ≡ s₂) × (t₁ ≡ t₂)
  one_bench_words_by_value n p q = told_apart (p ∙ sym q)

  pub one_bench_draws_by_value : (r budget n : ℕ) {a b : Sums}
      → BenchDrawsByValuePromise s t r budget n a s₁ t₁ → BenchDrawsByValuePromise s t r budget n b s₂ t₂ → (a ≡ b) × (s₁ ≡ s₂) × (t₁ ≡ t₂)
  one_bench_draws_by_value = one_bench_draws_in s t
