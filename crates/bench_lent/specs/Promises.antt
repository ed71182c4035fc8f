-- What the loop promises of its answer: its contract in src/, by name.
use Rattle.std.specs.Prelude.{◌≡◌, ℕ, List}
use Rattle.words.specs.Refusal as refusal
use Rattle.lent_state.specs.Answers.{told, at_boundary}
use Rattle.bench_lent.specs.declared.lent_loops.Sums.{Sums}
use Rattle.bench_lent.specs.Rows.{draws_row, sums, sums_of}

-- draws in a row from a lent generator, over its table
abbrev pub BenchDrawsInPromise : List ℕ → List ℕ → (r budget n : ℕ) → Sums → List ℕ → List ℕ → Type 0
BenchDrawsInPromise s t r budget n a s' t' = told a s' t' ≡ at_boundary s t (sums 0 0 refusal.kind) (λ g. sums_of (draws_row r budget n g))
