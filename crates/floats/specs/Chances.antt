-- What `bool` answers (document 01, "Draws" and "When the unit says no").
use Rattle.std.specs.Prelude.{ℕ, ◌*◌, Result, Ok, Err, Bool, true, false, ◌&&◌, cond, eqb, leb, Float}
use Rattle.std.specs.Float.{nan, inf, fin}
use Rattle.std.specs.Float.Ieee.{up, down, lt}
use Rattle.words.specs.Refusal.{chance}
use Rattle.words.specs.declared.refusal.Refusal.{Refusal}
use Rattle.words.specs.Numbers.{number_of}
use Rattle.floats.specs.Units.{double_of}

-- from 0 to 1, by the whole numbers: of those with a minus sign -0 alone is, and m * 2 ^ e is at most 1 where m * up e ≤ down e,
-- 2 ^ e being the fraction up e / down e
unfoldable pub is_chance : Float → Bool
is_chance nan = false
is_chance (inf s) = false
is_chance (fin true m e) = eqb m 0
is_chance (fin false m e) = leb (m * up e) (down e)

-- 3 where p is no chance
abbrev pub chance_refusal : Float → ℕ
chance_refusal p = cond (is_chance p) 0 chance

-- A coin in document 01's numbers: the refusal's, 0 where there is none, and the value, false where it is refused.
pub record Coin : Type 0 where
  pub refusal : ℕ
  pub value : Bool

-- a coin of the code
abbrev pub coin : Result Bool Refusal → Coin
coin (Ok b) = record { refusal = 0; value = b }
coin (Err r) = record { refusal = number_of r; value = false }

-- whether the double is below p; a refused one is false
abbrev pub coin_of : (p : Float) (word : ℕ) → Coin
coin_of p word = record { refusal = chance_refusal p; value = is_chance p && lt (double_of word) p }
