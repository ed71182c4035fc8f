-- What the promises of `choose` and `rand_slice` fix, whatever the outcome: the next generator is the old one after the words used, a
-- refusal leaves it, and two answers that meet one promise are the same, over a lent table the tables too.
use Rattle.std.specs.Prelude.{◌≡◌, List, ℕ, Result, Ok, Err}
use Rattle.std.proofs.Common.{ap, ap₂, arith}
use Rattle.random.specs.declared.backend.Random.{Random}
use Rattle.random.specs.declared.engine.Engine.{Engine}
use Rattle.random.specs.Generator.{later}
use Rattle.random.specs.GeneratorLaws.{later_none}
use Rattle.random.specs.Lent.{joined_with, engine_in, table_in}
use Rattle.random.specs.LentLaws.{joined_apart}
use Rattle.lists.specs.Choosing.{Chosen}
use Rattle.lists.specs.Slicing.{SliceStart}
use Rattle.lists.specs.declared.outcomes.Choice.{Choice}
use Rattle.lists.specs.declared.outcomes.SliceOutcome.{SliceOutcome}
use Rattle.lists.specs.Choosing.{choice_from, joined_choice}
use Rattle.lists.specs.Slicing.{start_of, start_from, joined_start}
use Rattle.lists.specs.Replies.{choice, choice_in_numbers, start_in_numbers}
use Rattle.lists.specs.declared.places.Entry.{Entry}
use Rattle.words.specs.declared.refusal.Refusal.{Refusal}
use Rattle.words.specs.declared.reply.Given.{Given}
use Rattle.words.specs.declared.reply.Reply.{Reply}
use Rattle.words.specs.NumbersLaws.{number_positive, numbers_apart, one_number}

-- ---- `choose` by value

module _ {a : Chosen Random} (g : Random) (c : Choice) (p : a ≡ choice_from g c) where
  -- "The new generator is the old one after that many words" (document 01, "Draws").
  pub choice_next : a.next ≡ later a.used g
  unfolding choice_from
  choice_next = rw p

  -- "a refusal leaves generator .. unchanged" (the order, demand 1)
  pub choice_unmoved : c.used ≡ 0 → a.next ≡ g
  unfolding choice_from
  choice_unmoved none = rw (p, none, later_none g)

-- ---- over a lent table

pub choice_apart : {a b : Chosen Engine} {m m' : List ℕ} → joined_choice a m ≡ joined_choice b m' → (a ≡ b) × (m ≡ m')
choice_apart h = (
  ap (λ (x : Chosen Random). record { refusal = x.refusal; place = x.place; value = x.value; used = x.used; next = engine_in x.next }) h,
  ap (λ (x : Chosen Random). table_in x.next) h,
)

-- the engine and the table are as they came
pub choice_unmoved_in : {a : Chosen Engine} {m' : List ℕ} (e : Engine) (m : List ℕ) (c : Choice)
    → joined_choice a m' ≡ choice_from (joined_with e m) c → c.used ≡ 0 → (a.next ≡ e) × (m' ≡ m)
choice_unmoved_in e m c p none = joined_apart (choice_unmoved (joined_with e m) c p none)

-- ---- `rand_slice` by value

module _ {a : SliceStart Random} (g : Random) (s : SliceOutcome) (p : a ≡ start_from g s) where
  pub start_next : a.next ≡ later a.used g
  unfolding start_from
  start_next = rw p

  pub start_unmoved : s.used ≡ 0 → a.next ≡ g
  unfolding start_from
  start_unmoved none = rw (p, none, later_none g)

-- ---- over a lent table

pub start_apart : {a b : SliceStart Engine} {m m' : List ℕ} → joined_start a m ≡ joined_start b m' → (a ≡ b) × (m ≡ m')
start_apart h = (
  ap (λ (x : SliceStart Random). record { refusal = x.refusal; start = x.start; used = x.used; next = engine_in x.next }) h,
  ap (λ (x : SliceStart Random). table_in x.next) h,
)

pub start_unmoved_in : {a : SliceStart Engine} {m' : List ℕ} (e : Engine) (m : List ℕ) (s : SliceOutcome)
    → joined_start a m' ≡ start_from (joined_with e m) s → s.used ≡ 0 → (a.next ≡ e) × (m' ≡ m)
start_unmoved_in e m s p none = joined_apart (start_unmoved (joined_with e m) s p none)

-- ---- the code's answers: two that say the same in document 01's numbers are the same

choices_apart : (a b : Result (Given Entry) Refusal) → choice a ≡ choice b → a ≡ b
choices_apart (Ok g) (Ok h) e =
    ap (λ (c : Choice). Ok (record { value = record { place = c.place; value = c.value }; used = c.used })) e
choices_apart (Err r) (Err q) e = ap Err (one_number (ap (λ (c : Choice). c.refusal) e))
choices_apart (Ok g) (Err q) e = absurd (omega (arith, number_positive q, ap (λ (c : Choice). c.refusal) e))
choices_apart (Err r) (Ok h) e = absurd (omega (arith, number_positive r, ap (λ (c : Choice). c.refusal) e))

pub choice_same_reply : {G : Type 0} (a b : Reply Entry G) → choice_in_numbers a ≡ choice_in_numbers b → a ≡ b
choice_same_reply {G} a b h =
    ap₂ (λ (g : G) (t : Result (Given Entry) Refusal). record { next = g; told = t }) (ap (λ (x : Chosen G). x.next) h)
    (choices_apart a.told b.told
    (ap (λ (x : Chosen G). record { refusal = x.refusal; place = x.place; value = x.value; used = x.used }) h))

pub start_same_reply : {G : Type 0} (a b : Reply ℕ G) → start_in_numbers a ≡ start_in_numbers b → a ≡ b
unfolding start_of
start_same_reply {G} a b h =
    ap₂ (λ (g : G) (t : Result (Given ℕ) Refusal). record { next = g; told = t }) (ap (λ (x : SliceStart G). x.next) h)
    (numbers_apart a.told b.told (ap (λ (x : SliceStart G). record { refusal = x.refusal; value = x.start; used = x.used }) h))
