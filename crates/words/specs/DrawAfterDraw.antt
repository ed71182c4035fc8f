-- "A shuffle obeys this draw after draw under one budget" (the order, demand 3): wherever a list of bounds is split, the draws below its
-- second part start just past the word that settled the last draw of its first, with the budget that is left.
use Rattle.std.specs.Prelude.{List, ◌++◌, ℕ, ◌+◌, length}
use Rattle.words.specs.Draw.{Drawn, all, short}

-- The values vs, drawn with n words, in front of further draws.
abbrev pub prepend : List ℕ → ℕ → Drawn → Drawn
prepend vs n (all ws m) = all (vs ++ ws) (n + m)
prepend vs n (short m) = short (length vs + m)
