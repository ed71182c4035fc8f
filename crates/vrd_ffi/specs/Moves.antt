-- A generator moved by a word in place, and the first word where it settles a draw at once.
use Rattle.std.specs.Prelude.{◌≡◌, Bool, true, false, cond, List, ℕ, ◌≤◌, ◌<◌, ◌^◌, eqb}
use Rattle.words.specs.Draw.{good, quotient}
use Rattle.random.specs.Generator.{rand_of, u64_of, word_of, steps64}
use Rattle.random.specs.declared.backend.Random.{Random}
use Rattle.source.specs.declared.Drawn.{Drawn}
use Rattle.lent_state.specs.Answers.{Reply, gives, told, written}
use Rattle.lent_state.specs.State.{kind_in, backend_in, generator_in}

-- a word drawn, as a reply
abbrev pub drew : Drawn ℕ Random → Reply ℕ
drew d = gives d.word d.next

-- the next word of 32 or of 64 bits is drawn off the generator, which is written back
abbrev pub Moves32 : List ℕ → List ℕ → ℕ → List ℕ → List ℕ → Type 0
Moves32 s t word s' t' = told word s' t' ≡ written s (drew (rand_of (generator_in s t)))

-- the next word of 64 bits
abbrev pub Moves64 : List ℕ → List ℕ → ℕ → List ℕ → List ℕ → Type 0
Moves64 s t word s' t' = told word s' t' ≡ written s (drew (u64_of (generator_in s t)))

-- how many words a word of 64 bits takes
abbrev pub steps_in : List ℕ → ℕ
steps_in s = steps64 (backend_in s)

-- the kinds whose own word has 64 bits: 0 and 3
abbrev pub IsWide : List ℕ → Type 0
IsWide s = (kind_in s ≡ 0 → ⊥) → kind_in s ≡ 3

-- those whose own word has 32 bits: 1 and 2
abbrev pub IsNarrow : List ℕ → Type 0
IsNarrow s = (kind_in s ≡ 1 → ⊥) → kind_in s ≡ 2

-- which of the two a known kind is
abbrev pub Widths : List ℕ → Bool → Type 0
Widths s true = IsWide s
Widths s false = kind_in s ≤ 3 → IsNarrow s

-- of a kind that does not use the table
abbrev pub MovesWide : List ℕ → ℕ → List ℕ → Type 0
MovesWide s word s' = (t : List ℕ) → Moves64 s t word s' t

-- a word settles a draw below r: q is its quotient, below 2^32; or q is 2^32, which says nothing
pub record Settled (word r q : ℕ) : Type 0 where
  pub fine : good r word ≡ true
  pub drawn : q ≡ quotient r word
  pub small : q < r

-- q is what the word settled, or 2^32
abbrev pub Settles : ℕ → ℕ → ℕ → Type 0
Settles word r q = q < 2 ^ 32 → Settled word r q

-- The first word settles a draw below r: its quotient, below 2^32, with the generator moved by it; or 2^32, and nothing changes.
pub record Hit (s t : List ℕ) (r q : ℕ) (s' : List ℕ) : Type 0 where
  pub known : kind_in s ≤ 3
  pub moved : Moves32 s t (word_of (generator_in s t)) s' t
  pub settled : Settled (word_of (generator_in s t)) r q

-- what the first word may be tried below: r, or 0, below which no word settles a draw, where the budget allows no word
unfoldable pub below_within : (r budget : ℕ) → ℕ
below_within r budget = cond (eqb budget 0) 0 r

-- a hit, or nothing changed
pub record Quick (s t : List ℕ) (r q : ℕ) (s' : List ℕ) : Type 0 where
  pub hit : q < 2 ^ 32 → Hit s t r q s'
  pub miss : 2 ^ 32 ≤ q → s' ≡ s

-- the same of a kind that does not use the table
abbrev pub QuickPcg : List ℕ → (r q : ℕ) → List ℕ → Type 0
QuickPcg s r q s' = (t : List ℕ) → Quick s t r q s'
