-- The code's answers of `choose` and `rand_slice`, in document 01's numbers; and what the code makes of the number drawn.
use Rattle.std.specs.Prelude.{◌≡◌, List, ℕ, Result, Ok, Err}
use Rattle.words.specs.Refusal.{answered}
use Rattle.words.specs.declared.refusal.Refusal.{Refusal}
use Rattle.words.specs.declared.reply.Given.{Given}
use Rattle.words.specs.declared.reply.Reply.{Reply}
use Rattle.words.specs.Numbers.{number_of, numbered}
use Rattle.random.specs.declared.backend.Random.{Random}
use Rattle.random.specs.declared.engine.Engine.{Engine}
use Rattle.lists.specs.declared.outcomes.Choice.{Choice}
use Rattle.lists.specs.declared.places.Entry.{Entry}
use Rattle.lists.specs.Choosing.{Chosen, choice_with, entry_of}
use Rattle.lists.specs.Slicing.{SliceStart, start_of, start_with}

-- the number of a check: 0 where it passes
abbrev pub refusal_in : {T : Type 0} → Result T Refusal → ℕ
refusal_in (Ok t) = answered
refusal_in (Err r) = number_of r

-- ---- `choose`

abbrev pub choice : Result (Given Entry) Refusal → Choice
choice (Ok g) = record { refusal = answered; place = g.value.place; value = g.value.value; used = g.used }
choice (Err r) = record { refusal = number_of r; place = 0; value = 0; used = 0 }

-- by value and over a lent table
abbrev pub choice_in_numbers : {G : Type 0} → Reply Entry G → Chosen G
choice_in_numbers a = choice_with (choice a.told) a.next

-- r has the place of a, and the entry of the list there
abbrev pub EntryIn : List ℕ → Reply ℕ Engine → Reply Entry Engine → Type 0
EntryIn list a r = (choice r.told ≡ entry_of list (numbered a.told)) × (r.next ≡ a.next)

-- ---- `rand_slice`

-- by value and over a lent table
abbrev pub start_in_numbers : {G : Type 0} → Reply ℕ G → SliceStart G
start_in_numbers a = start_with (start_of (numbered a.told)) a.next
