-- Each promise leaves one answer: two that both meet it are equal, and so are the tables and lists that they leave.
use Rattle.std.specs.Prelude.{Bool, List, ◌≡◌, refl, ℕ}
use Rattle.std.proofs.Common.{sym, ◌∙◌, ap₂}
use Rattle.random.specs.LentLaws.{joined_apart}
use Rattle.random.specs.declared.engine.Engine.{Engine}
use Rattle.rehearsal.specs.Promises.{SettlePromise, TakeTurnPromise, RehearsePromise, RehearseTablePromise}
use Rattle.rehearsal.specs.declared.rehearsing.Rehearsed.{Rehearsed}
use Rattle.rehearsal.specs.declared.turns.Draws.{Draws}
use Rattle.rehearsal.specs.declared.turns.Turn.{Turn}

-- One count of draws and one list.
pub one_settle : (list : List ℕ) (r : ℕ) (falls : Bool) {a b : ℕ} {list₁ list₂ : List ℕ}
    → SettlePromise list r falls a list₁ → SettlePromise list r falls b list₂ → (a ≡ b) × (list₁ ≡ list₂)
one_settle list r falls p q = (p.0 ∙ sym q.0, p.1 ∙ sym q.1)

-- One turn, one table and one block.
pub one_take_turn : (d : Draws) (t : Turn) (mt block : List ℕ) {a b : Turn} {mt₁ mt₂ block₁ block₂ : List ℕ}
    → TakeTurnPromise d t mt block a mt₁ block₁ → TakeTurnPromise d t mt block b mt₂ block₂ → (a ≡ b) × (mt₁ ≡ mt₂) × (block₁ ≡ block₂)
one_take_turn d t mt block {a} {b} p q =
    let (engine, table) = joined_apart (p.moved ∙ sym q.moved) in
    let used = p.used ∙ sym q.used in
    let settled = p.settled ∙ sym q.settled in
    let counts = ap₂ {C = Turn} (λ (n m : ℕ). record { next = a.next; used = n; settled = m }) used settled in
    let next = ap₂ {C = Turn} (λ (e : Engine) (n : ℕ). record { next = e; used = n; settled = b.settled }) engine refl in
    (counts ∙ next, table, p.holds ∙ sym q.holds)

-- One rehearsal,
pub one_rehearse : (d : Draws) (e : Engine) (mt : List ℕ) {a b : Rehearsed} → RehearsePromise d e mt a → RehearsePromise d e mt b → a ≡ b
one_rehearse d e mt p q = p ∙ sym q

-- and one table.
pub one_rehearse_table : (mt : List ℕ) {mt₁ mt₂ : List ℕ} → RehearseTablePromise mt mt₁ → RehearseTablePromise mt mt₂ → mt₁ ≡ mt₂
one_rehearse_table mt p q = p ∙ sym q
