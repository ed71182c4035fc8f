-- The laws of a lent table: what is told of an engine and a table is that engine and that table.
use Rattle.std.specs.Prelude.{List, ◌≡◌, ℕ}
use Rattle.std.proofs.Common.{ap}
use Rattle.random.specs.Lent.{engine_in, table_in, joined_with, joined_word}
use Rattle.source.specs.declared.Drawn.{Drawn}
use Rattle.random.specs.declared.engine.Engine.{Engine}
use Rattle.random.specs.declared.backend.Random.{Random}

pub joined_apart : {e e' : Engine} {m m' : List ℕ} → joined_with e m ≡ joined_with e' m' → (e ≡ e') × (m ≡ m')
joined_apart h = (ap engine_in h, ap table_in h)

pub word_apart : {a b : Drawn ℕ Engine} {m m' : List ℕ} → joined_word a m ≡ joined_word b m' → (a ≡ b) × (m ≡ m')
word_apart h = (ap answer h, ap (λ (x : Drawn ℕ Random). table_in x.next) h)
  where
    answer : Drawn ℕ Random → Drawn ℕ Engine
    answer x = record { word = x.word; next = engine_in x.next }
