-- The kit's `round` rounds to nearest, ties to even (`rounds`), and so does each operation that `uniform` makes, of its exact result. The
-- operands are m * 2 ^ e and n * 2 ^ d, 2 ^ e being the fraction up e / down e.
use Rattle.std.specs.Prelude.{Bool, not, ◌≡◌, refl, ℕ, ◌+◌, ◌-◌, ◌*◌, ◌^◌, ◌≤◌, ◌<◌, ℤ, Float}
use Rattle.std.proofs.Math.Bool.{true, false}
use Rattle.std.proofs.Common.{sym, ◌∙◌, subst, le_of_lt, le_of_eq, mul-pos}
use native.Mathlib.Omega.{arith}
use borrow.Author.Tests.{lt-ltb, le-ltb}
use Rattle.std.specs.Float.{inf, fin, Format}
use Rattle.std.specs.Float.Ieee.{prec, low, unlike, up, down, units, round, sum, add, sub, neg, mul}
use Rattle.std.specs.Float.Ieee.Exact.{HasValue, units_val}
use Rattle.std.specs.Float.Ieee.Fits.{down_pos, round_is, two, two-le_pos}
use Rattle.std.specs.Float.Ieee.Order.{drop, kept}
use Rattle.std.specs.Float.Ieee.Scale.{overflow}
use Rattle.floats.specs.Rounding.{Rounded}
use Rattle.floats.specs.RoundingLaws.{rounded}

-- from the overflow on an infinity
units_over : (f : Format) (s : Bool) (q k : ℕ) → overflow f ≤ q * 2 ^ k → units f s q k ≡ inf s
unfolding units
units_over f s q k h = rw (le-ltb (q * 2 ^ k) (overflow f) h)

-- `round`
pub rounds : (f : Format) (s : Bool) (a c : ℕ) → 0 < c → Rounded f s a c (round f s a c)
rounds f s a c C = record {
  significand = q;
  exponent = k;
  nearest = rounded (prec f) (a * 2 ^ low f) c (two-le_pos (prec f) (two f)) C;
  finite = λ h. subst (λ (x : Float). HasValue x s (q * 2 ^ k) (2 ^ low f)) (sym (round_is f s a c)) (units_val f s q k h);
  infinite = λ h. round_is f s a c ∙ units_over f s q k h;
}
  where
    q : ℕ
    q = kept (prec f) (a * 2 ^ low f) c

    k : ℕ
    k = drop (prec f) (a * 2 ^ low f) c

module _ (f : Format) (m : ℕ) (e : ℤ) (n : ℕ) (d : ℤ) where
  -- the denominator of the result
  abbrev c : ℕ
  c = down e * down d

  -- it is above 0
  C : 0 < c
  C = mul-pos (down_pos e) (down_pos d)

  -- the product
  pub product_rounds : (s t : Bool) → Rounded f (unlike s t) (m * up e * (n * up d)) c (mul f (fin s m e) (fin t n d))
  unfolding mul
  product_rounds s t = rounds f (unlike s t) (m * up e * (n * up d)) c C

  -- the first size over it
  abbrev a : ℕ
  a = m * up e * down d

  -- and the second
  abbrev b : ℕ
  b = n * up d * down e

  -- the sum of two with one sign, and with two signs by which is larger; of two that are level it is +0
  pub like_rounds : (s : Bool) → Rounded f s (a + b) c (add f (fin s m e) (fin s n d))
  unfolding add sum
  like_rounds true = rounds f true (a + b) c C
  like_rounds false = rounds f false (a + b) c C

  pub larger_rounds : (s : Bool) → b < a → Rounded f s (a - b) c (add f (fin s m e) (fin (not s) n d))
  unfolding add sum
  larger_rounds true h = rw (le-ltb a b (le_of_lt h), lt-ltb b a h) (rounds f true (a - b) c C)
  larger_rounds false h = rw (le-ltb a b (le_of_lt h)) (rounds f false (a - b) c C)

  pub smaller_rounds : (s : Bool) → a < b → Rounded f (not s) (b - a) c (add f (fin s m e) (fin (not s) n d))
  unfolding add sum
  smaller_rounds true h = rw (lt-ltb a b h) (rounds f false (b - a) c C)
  smaller_rounds false h = rw (lt-ltb a b h) (rounds f true (b - a) c C)

  pub level_rounds : (s : Bool) → a ≡ b → Rounded f false 0 c (add f (fin s m e) (fin (not s) n d))
  unfolding add sum
  level_rounds true h = rw (le-ltb a b (le_of_eq (sym h)), le-ltb b a (le_of_eq h), none) (rounds f false 0 c C)
    where
      none : a - b ≡ 0
      none = omega arith
  level_rounds false h = rw (le-ltb a b (le_of_eq (sym h)), none) (rounds f false 0 c C)
    where
      none : a - b ≡ 0
      none = omega arith

-- the difference is the sum with the opposite
pub difference_is : (f : Format) (x : Float) (t : Bool) (n : ℕ) (d : ℤ) → sub f x (fin t n d) ≡ add f x (fin (not t) n d)
unfolding sub neg
difference_is f x t n d = refl
