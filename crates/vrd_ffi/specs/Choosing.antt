-- A place drawn, and the entry of the list there.
use Rattle.std.specs.Prelude.{ℕ, ◌<◌, eqb, length, get_or, cond, List, Result, ◌≡◌}
use Rattle.words.specs.Refusal as refusal
use Rattle.words.specs.declared.refusal.Refusal.{Refusal}
use Rattle.words.specs.declared.reply.Given.{Given}
use Rattle.lists.specs.Replies as library
use Rattle.lists.specs.declared.places.Entry.{Entry}
use Rattle.vrd_ffi.specs.declared.answers.Choice.{Choice}
use Rattle.vrd_ffi.specs.declared.answers.Number.{Number}
use Rattle.vrd_ffi.specs.Handed.{choice}

-- what the library's call tells, as the code hands it out
abbrev pub choice_told : Result (Given Entry) Refusal → Choice
choice_told told = let c = library.choice told in choice c.place c.value c.used c.refusal

-- a refusal has entry 0
abbrev pub entry_of : List ℕ → Number → Choice
entry_of list a = choice a.value (cond (eqb a.refusal refusal.answered) (get_or list a.value 0) 0) a.used a.refusal

-- the place is one of the list's
abbrev pub Within : List ℕ → Number → Type 0
Within list a = a.refusal ≡ refusal.answered → a.value < length list
