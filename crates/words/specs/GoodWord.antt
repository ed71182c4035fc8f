-- The order's test of a word in plain numbers, the first good word among the next B, and that `first_good` finds exactly that one.
use Rattle.std.specs.Prelude.{ℕ, ◌*◌, ◌%◌, ◌^◌, ◌≤◌, ◌<◌}
use Rattle.words.specs.Draw.{Words}

-- "[its] product with r leaves at least 2^32 mod r when divided by 2^32" (the order, demand 3);
abbrev pub Passes : ℕ → ℕ → Type 0
Passes r w = 2 ^ 32 % r ≤ (w * r) % 2 ^ 32

-- and that it leaves less.
abbrev pub Fails : ℕ → ℕ → Type 0
Fails r w = (w * r) % 2 ^ 32 < 2 ^ 32 % r

-- "the first such word": it stands at place k among the next `budget` words, and no word before it passes.
pub record FirstGood (s : Words) (r budget k : ℕ) : Type 0 where
  pub among : k < budget
  pub passes : Passes r (s k)
  pub none_before : (j : ℕ) → j < k → Fails r (s j)

-- None of the next `budget` words passes.
abbrev pub NoneGood : Words → ℕ → ℕ → Type 0
NoneGood s r budget = (j : ℕ) → j < budget → Fails r (s j)

-- Among the next `budget` words there is a first good one, or none.
pub data Looked (s : Words) (r budget : ℕ) : Type 0 where
  some_good : (k : ℕ) → FirstGood s r budget k → Looked s r budget
  none_good : NoneGood s r budget → Looked s r budget
