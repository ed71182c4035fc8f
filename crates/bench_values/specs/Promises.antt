-- What each loop by value promises of its answer: its contract in src/, by name.
use Rattle.std.specs.Prelude.{◌≡◌, ℕ, List}
use Rattle.words.specs.Refusal as refusal
use Rattle.lent_state.specs.Answers.{told, at_boundary}
use Rattle.bench_lent.specs.Promises.{BenchDrawsInPromise}
use Rattle.bench_lent.specs.declared.lent_loops.Sums.{Sums}
use Rattle.bench_values.specs.declared.value_loops.Xored.{Xored}
use Rattle.bench_values.specs.Rows.{words_row, xored, xored_of}

-- words in a row: their XOR, and the generator after them
abbrev pub BenchWordsByValuePromise : List ℕ → List ℕ → (n : ℕ) → Xored → List ℕ → List ℕ → Type 0
BenchWordsByValuePromise s t n r s' t' = told r s' t' ≡ at_boundary s t (xored 0 refusal.kind) (λ g. xored_of (words_row n g))

-- draws in a row: what those over the lent table promise
abbrev pub BenchDrawsByValuePromise : List ℕ → List ℕ → (r budget n : ℕ) → Sums → List ℕ → List ℕ → Type 0
BenchDrawsByValuePromise = BenchDrawsInPromise
