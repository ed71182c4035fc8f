-- The limit of lists. The code has the same number in src/limit.rt.
use Rattle.std.specs.Prelude.{ℕ}

-- the most entries that a list may have (document 01, "Lists")
abbrev pub list_limit : ℕ
list_limit = 65536
