-- Which floats and patterns are a NaN's, by the tests that code can make: a NaN alone differs from itself.
use Rattle.std.specs.Prelude.{◌≡◌, refl, ℕ, Bool, true, false, Float}
use Rattle.std.proofs.Common.{eq-eqb}
use Rattle.std.specs.Bool.{beq}
use Rattle.std.specs.Float.{nan, inf, fin}
use Rattle.std.specs.Float.Ieee.{is_nan, eq, ne, level}

alike : (s : Bool) → beq s s ≡ true
alike true = refl
alike false = refl

level_self : (s : Bool) (a : ℕ) → level s a s a ≡ true
level_self s a = rw (eq-eqb a a refl, alike s)

pub differs_from_itself : (x : Float) → is_nan x ≡ ne x x
unfolding is_nan ne eq
differs_from_itself nan = refl
differs_from_itself (inf s) = rw alike
differs_from_itself (fin s m e) = rw level_self
