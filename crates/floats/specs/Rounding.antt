-- "To nearest, ties to even", in plain numbers (IEEE 754, 4.3.1). A format counts in units of its smallest value, 2 ^ -low; with no bound
-- on the exponent its numbers are m * 2 ^ j units, m below 2 ^ prec.
use Rattle.std.specs.Prelude.{Bool, ◌⊎◌, ◌≡◌, ℕ, ◌+◌, ◌-◌, ◌*◌, ◌%◌, ◌^◌, ◌≤◌, ◌<◌, Float}
use Rattle.std.specs.Float.{inf, Format}
use Rattle.std.specs.Float.Ieee.{prec, low}
use Rattle.std.specs.Float.Ieee.Exact.{HasValue}
use Rattle.std.specs.Float.Ieee.Scale.{overflow}

-- how far apart two numbers are: one of the two differences is 0
abbrev pub distance : (a b : ℕ) → ℕ
distance a b = a - b + (b - a)

-- q * 2 ^ k is n / c rounded to p digits; the distances are those from n / c, each c times
pub record Nearest (p n c q k : ℕ) : Type 0 where
  -- q is the significand: no more than p digits, or 2 ^ p, and all p of them where the number is not among the smallest
  pub digits : q ≤ 2 ^ p
  pub full : (k ≡ 0) ⊎ (2 ^ (p - 1) ≤ q)
  -- no number of p digits is nearer,
  pub none_nearer : (m j : ℕ) → m < 2 ^ p → distance (q * 2 ^ k * c) n ≤ distance (m * 2 ^ j * c) n
  -- and where another is as near, the significand is even
  pub ties_to_even : (m j : ℕ) → m < 2 ^ p → distance (m * 2 ^ j * c) n ≡ distance (q * 2 ^ k * c) n → (m * 2 ^ j ≡ q * 2 ^ k) ⊎ (q % 2 ≡ 0)

-- x is a / c rounded to the format f, with the sign s: that number of units, or an infinity from 2 ^ (emax + 1) on
pub record Rounded (f : Format) (s : Bool) (a c : ℕ) (x : Float) : Type 0 where
  pub significand : ℕ
  pub exponent : ℕ
  pub nearest : Nearest (prec f) (a * 2 ^ low f) c significand exponent
  pub finite : significand * 2 ^ exponent < overflow f → HasValue x s (significand * 2 ^ exponent) (2 ^ low f)
  pub infinite : overflow f ≤ significand * 2 ^ exponent → x ≡ inf s
