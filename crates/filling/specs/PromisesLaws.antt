-- Each promise leaves one answer: two that both meet it are equal.
use Rattle.std.specs.Prelude.{List, ◌≡◌, ℕ}
use Rattle.random.specs.Lent.{joined_with}
use Rattle.random.specs.LentLaws.{joined_apart}
use Rattle.random.specs.declared.backend.Random.{Random}
use Rattle.random.specs.declared.engine.Engine.{Engine}
use Rattle.filling.specs.FillLaws.{one_filling}
use Rattle.filling.specs.Promises.{FillBytesInPromise, FillBytesPromise}

pub one_fill_bytes : (g : Random) (dest : List ℕ) {a b : Random} {dest₁ dest₂ : List ℕ}
    → FillBytesPromise g dest a dest₁ → FillBytesPromise g dest b dest₂ → (a ≡ b) × (dest₁ ≡ dest₂)
one_fill_bytes g dest p q = let (bytes, next) = one_filling p q in (next, bytes)

pub one_fill_bytes_in : (e : Engine) (mt dest : List ℕ) {a b : Engine} {mt₁ mt₂ : List ℕ} {dest₁ dest₂ : List ℕ}
    → FillBytesInPromise e mt dest a mt₁ dest₁ → FillBytesInPromise e mt dest b mt₂ dest₂ → (a ≡ b) × (mt₁ ≡ mt₂) × (dest₁ ≡ dest₂)
one_fill_bytes_in e mt dest p q =
    let (next, bytes) = one_fill_bytes (joined_with e mt) dest p q in
    let (engine, table) = joined_apart next in
    (engine, table, bytes)
