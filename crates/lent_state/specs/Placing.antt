-- A generator that was made, in a lent state and table.
use Rattle.std.specs.Prelude.{ℕ, cond, List, eqb}
use Rattle.words.specs.Refusal as refusal
use Rattle.random.specs.Lent.{engine_in, table_in}
use Rattle.random.specs.TableKept.{on_table}
use Rattle.random.specs.declared.backend.Random.{Random}
use Rattle.lent_state.specs.Answers.{Told, told}
use Rattle.lent_state.specs.State.{state_of}

-- a generator written to a state that is made anew
abbrev pub state_made : Random → List ℕ
state_made g = state_of (engine_in g)

-- the table is the twister's alone: every other generator that is made leaves it as it came
abbrev pub table_made : Random → List ℕ → List ℕ
table_made g t = cond (on_table g.backend) (table_in g) t

-- THE RULE of a making: where it is refused, with n, nothing changes
abbrev pub placed : List ℕ → List ℕ → (n : ℕ) → Random → Told ℕ
placed s t n g = cond (eqb n refusal.answered) (told n (state_made g) (table_made g t)) (told n s t)
