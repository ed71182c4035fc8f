-- For code that draws below each bound of a list, one after the other, from any source of words: what holds after some of the draws
-- (`Running`), at the start and at the end.
use Rattle.std.specs.Prelude.{◌≡◌, List, ◌++◌, ℕ}
use Rattle.words.specs.Draw.{Words, all, draws}

-- The draws below the bounds `passed` are all settled: they gave the values vs and used so many words. The bounds `rest` are left.
pub record Running (s : Words) (bounds : List ℕ) (budget used : ℕ) (vs rest : List ℕ) : Type 0 where
  pub passed : List ℕ
  pub split : bounds ≡ passed ++ rest
  pub drawn : draws s passed budget ≡ all vs used
