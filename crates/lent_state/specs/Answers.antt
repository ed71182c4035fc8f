-- What every export leaves: its answer, the state and the table. The boundary's own refusal stands here, once for all of them.
use Rattle.std.specs.Prelude.{ℕ, cond, List, leb}
use Rattle.words.specs.Refusal as refusal
use Rattle.random.specs.Lent.{engine_in, table_in}
use Rattle.random.specs.declared.backend.Random.{Random}
use Rattle.lent_state.specs.State.{kind_in, generator_in, state_after}

-- an answer, with the state and the table after the call
pub record Told (A : Type 0) : Type 0 where
  pub answer : A
  pub state : List ℕ
  pub table : List ℕ

-- put together
abbrev pub told : {A : Type 0} → A → List ℕ → List ℕ → Told A
told a s t = record { answer = a; state = s; table = t }

-- what the library replies by value: the refusal's number (0 where the call is answered), the answer as it is handed out, and the next
-- generator
pub record Reply (A : Type 0) : Type 0 where
  pub refusal : ℕ
  pub answer : A
  pub next : Random

-- put together
abbrev pub reply : {A : Type 0} → ℕ → A → Random → Reply A
reply n a g = record { refusal = n; answer = a; next = g }

-- a call that refuses nothing
abbrev pub gives : {A : Type 0} → A → Random → Reply A
gives a g = reply refusal.answered a g

-- the same reply, its answer handed out in another form
abbrev pub formed : {A B : Type 0} → (A → B) → Reply A → Reply B
formed f r = reply r.refusal (f r.answer) r.next

-- a kind above 3 is refused before anything else is looked at
unfoldable pub of_known : {A : Type 0} → List ℕ → A → A → A
of_known s refused known = cond (leb (kind_in s) 3) known refused

-- where the call is answered, the next generator is written to the state; the table is its table
abbrev pub written : {A : Type 0} → List ℕ → Reply A → Told A
written s r = told r.answer (state_after r.refusal (engine_in r.next) s) (table_in r.next)

-- THE RULE: the library's reply of the generator that was lent, written back; or, of a kind above 3, the answer `none` and nothing changed
unfoldable pub at_boundary : {A : Type 0} → List ℕ → List ℕ → A → (Random → Reply A) → Told A
at_boundary s t none call = of_known s (told none s t) (written s (call (generator_in s t)))
