-- What the program's functions hand each other: a day that the program has room for.
use Rattle.std.specs.Prelude.{ℕ, ◌+◌, ◌≤◌}

-- the most slots of a day
abbrev pub most_slots : ℕ
most_slots = 65536

abbrev pub WithinLimit : ℕ → ℕ → Type 0
WithinLimit inlets blanks = inlets + blanks ≤ most_slots
