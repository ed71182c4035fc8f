-- Each promise leaves one answer: two that both meet it are equal.
use Rattle.std.specs.Prelude.{List, ◌≡◌, ℕ}
use Rattle.std.proofs.Common.{sym, ◌∙◌}
use Rattle.std.specs.Borrow.{Bor}
use Rattle.random.specs.Lent.{joined_with}
use Rattle.random.specs.declared.backend.Random.{Random}
use Rattle.random.specs.declared.engine.Engine.{Engine}
use Rattle.lists.specs.OneListAnswer.{choice_apart, start_apart}
use Rattle.lists.specs.Promises.{ChooseInPromise, ChoosePromise, EntryOfPromise, RandSliceInPromise, RandSlicePromise}
use Rattle.lists.specs.Promises.{StartOfPromise, WindowOfPromise}
use Rattle.words.specs.declared.outcome.Outcome.{Outcome}
use Rattle.lists.specs.declared.outcomes.Choice.{Choice}
use Rattle.lists.specs.declared.outcomes.SliceOutcome.{SliceOutcome}
use Rattle.lists.specs.Choosing.{Chosen}
use Rattle.lists.specs.Slicing.{SliceStart}

pub one_entry_of : (list : List ℕ) (o : Outcome) {a b : Choice} → EntryOfPromise list o a → EntryOfPromise list o b → a ≡ b
one_entry_of list o p q = p ∙ sym q

pub one_start_of : (o : Outcome) {a b : SliceOutcome} → StartOfPromise o a → StartOfPromise o b → a ≡ b
one_start_of o p q = p ∙ sym q

pub one_choose : (g : Random) (list : List ℕ) (budget : ℕ) {a b : Chosen Random}
    → ChoosePromise g list budget a → ChoosePromise g list budget b → a ≡ b
one_choose g list budget p q = p ∙ sym q

pub one_choose_in : (e : Engine) (mt list : List ℕ) (budget : ℕ) {a b : Chosen Engine} {mt₁ mt₂ : List ℕ}
    → ChooseInPromise e mt list budget a mt₁ → ChooseInPromise e mt list budget b mt₂ → (a ≡ b) × (mt₁ ≡ mt₂)
one_choose_in e mt list budget p q = choice_apart (one_choose (joined_with e mt) list budget p q)

pub one_rand_slice : (g : Random) (list : List ℕ) (window budget : ℕ) {a b : SliceStart Random}
    → RandSlicePromise g list window budget a → RandSlicePromise g list window budget b → a ≡ b
one_rand_slice g list window budget p q = p ∙ sym q

pub one_rand_slice_in : (e : Engine) (mt list : List ℕ) (window budget : ℕ) {a b : SliceStart Engine} {mt₁ mt₂ : List ℕ}
    → RandSliceInPromise e mt list window budget a mt₁ → RandSliceInPromise e mt list window budget b mt₂ → (a ≡ b) × (mt₁ ≡ mt₂)
one_rand_slice_in e mt list window budget p q = start_apart (one_rand_slice (joined_with e mt) list window budget p q)

-- the same entries, at the same place
pub one_window_of : (list : Bor (List ℕ)) (start window : ℕ) (a b : Bor (List ℕ))
    → WindowOfPromise list start window a → WindowOfPromise list start window b → (a.now ≡ b.now) × (a.ref_ptr ≡ b.ref_ptr)
one_window_of list start window a b p q = (p.0 ∙ sym q.0, p.1 ∙ sym q.1)
