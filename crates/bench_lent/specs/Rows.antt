-- Draws in a row from a generator of any kind: what their values and the words that they used come to, modulo 2^64, and the generator
-- after them. The loop over a lent table and the loop by value (`bench_values`) have one definition.
use Rattle.std.specs.Prelude.{ℕ, zero, suc, ◌+◌, ◌%◌, ◌^◌, List}
use Rattle.words.specs.Draw.{bounded_by}
use Rattle.random.specs.Generator.{words_of}
use Rattle.random.specs.Lent.{joined_with}
use Rattle.random.specs.declared.backend.Random.{Random}
use Rattle.random.specs.declared.engine.Engine.{Engine}
use Rattle.bounded.specs.Answers as answers
use Rattle.bounded.specs.declared.answers.Answer.{Answer}
use Rattle.lent_state.specs.Answers.{Reply, gives}
use Rattle.bench_lent.specs.declared.lent_loops.Sums.{Sums}
use Rattle.bench_lent.specs.declared.lent_loops.Total.{Total}

-- one draw below r
abbrev pub one_draw : (r budget : ℕ) → Random → Answer Random
one_draw r budget g = answers.answer_from g (bounded_by (words_of g) r budget)

-- a draw more
abbrev pub plus : Total Random → Answer Random → Total Random
plus t a = record { sum = (t.sum + a.value) % 2 ^ 64; used = (t.used + a.used) % 2 ^ 64; next = a.next }

-- n draws
unfoldable pub draws_row : (r budget n : ℕ) → Random → Total Random
draws_row r budget zero g = record { sum = 0; used = 0; next = g }
draws_row r budget (suc n) g = plus (draws_row r budget n g) (one_draw r budget (draws_row r budget n g).next)

-- what the loop over a lent table has
abbrev pub lent_total : Total Engine → List ℕ → Total Random
lent_total s t = record { sum = s.sum; used = s.used; next = joined_with s.next t }

-- ---- what the export hands out

-- sums, put together
abbrev pub sums : (sum used refusal : ℕ) → Sums
sums a b n = record { sum = a; used = b; refusal = n }

-- what draws come to, handed out
abbrev pub sums_of : Total Random → Reply Sums
sums_of t = gives (sums t.sum t.used 0) t.next
