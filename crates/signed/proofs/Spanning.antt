-- How the code works out the span of two signed numbers of 32 bits: their difference in 64 bits overflows nothing, and it, or 0
-- where it is below zero, is the gap.
use Rattle.std.specs.Prelude.{◌≡◌, refl, Bool, true, false, ℕ, zero, suc, ◌+◌, ◌≤◌, ltb, ℤ, pos, negsuc, ◌-ℤ◌, nat_abs}
use Rattle.std.proofs.Common.{◌∙◌, arith, lt-ltb, SFits, of_z, to_z}
use Rattle.std.proofs.Math.IntN.{sub_ℕ}
use Rattle.std.specs.Int.Signed.{mag}
use Rattle.std.specs.Int.{int_max, w32, w64}
use Rattle.std.proofs.lemmas.Int.{to_z-of_z}
use Rattle.signed.specs.Signed.{or_zero, gap}
use Rattle.signed.specs.Widening.{wide, widened}

-- ---- how large a difference is: `mag z` is n both for n and for -(n + 1)

difference_of_naturals : (a b : ℕ) → mag (sub_ℕ a b) ≤ a + b
difference_of_naturals a b = go (ltb a b) refl
  where
    go : (below : Bool) → ltb a b ≡ below → mag (sub_ℕ a b) ≤ a + b
    go true e = rw e (omega arith)
    go false e = rw e (omega arith)

difference_small : (a b : ℤ) → mag (a -ℤ b) ≤ mag a + mag b + 2
difference_small (pos a) (pos zero) = omega arith
difference_small (pos a) (pos (suc b)) = omega (arith, difference_of_naturals a (suc b))
difference_small (pos a) (negsuc b) = omega arith
difference_small (negsuc a) (pos zero) = omega (arith, difference_of_naturals 0 (suc a))
difference_small (negsuc a) (pos (suc b)) = omega arith
difference_small (negsuc a) (negsuc b) = omega (arith, difference_of_naturals (suc b) (suc a))

-- ---- a number, or 0 for one below zero

from_zero : (z : ℤ) → nat_abs (int_max z (pos 0)) ≡ or_zero z
from_zero (pos zero) = refl
from_zero (pos (suc n)) = rw (lt-ltb 0 (suc n) (omega arith)) refl
from_zero (negsuc n) = refl

-- ---- the code's difference

module _ {min max : ℤ} (f : SFits w32 min) (g : SFits w32 max) where
  -- what the machine reads back of it
  abbrev span : ℤ
  span = to_z w64 (of_z w64 (wide max -ℤ wide min))

  span_sum : wide max -ℤ wide min ≡ max -ℤ min
  span_sum = rw (widened g, widened f)

  -- the difference in 64 bits overflows nothing
  pub span_fits : SFits w64 (wide max -ℤ wide min)
  span_fits =
      let a = f.sfits in
      let b = g.sfits in
      rw span_sum (record { sfits = omega (arith, difference_small max min) })

  span_plain : span ≡ max -ℤ min
  span_plain = to_z-of_z w64 _ span_fits ∙ span_sum

  -- and it, or 0, is the gap
  pub span_gap : nat_abs (int_max span (pos 0)) ≡ gap min max
  unfolding gap
  span_gap = rw span_plain (from_zero (max -ℤ min))
