-- `float` and `double` (document 01, "Draws"): each is the very number that the document says, with nothing rounded and no -0.0, and a
-- double is from 0 to 1 - 2 ^ -53.
use Rattle.std.specs.Prelude.{ℕ, ◌-◌, ◌/◌, ◌^◌, ◌≤◌, ◌<◌, false, pos, negsuc, T}
use Rattle.std.proofs.Common.{zero-le, lt_of_le_of_lt, mul-le-mul_right, arith, lit<, lit≤, pow_pos}
use Rattle.std.specs.Float.{fin, binary32, binary64}
use Rattle.std.specs.Float.Ieee.{le}
use Rattle.std.specs.Float.Ieee.Order.{le_of_values}
use Rattle.floats.specs.Units.{dyadic, float_of, double_of}
use Rattle.floats.specs.DyadicLaws.{dyadic_value, dyadic_exact}
use Rattle.floats.specs.ExactValue.{Exactly}

-- `float` is exactly (word >> 8) / 2^24
pub float_exact : (word : ℕ) → word < 2 ^ 32 → Exactly binary32 (float_of word) (word / 2 ^ 8) 24
float_exact word h =
    let small : word / 2 ^ 8 < 2 ^ 24 = omega arith in
    dyadic_exact binary32 (word / 2 ^ 8) 24 small small (lit≤ tt)

high_bits : (word : ℕ) → word < 2 ^ 64 → word / 2 ^ 11 < 2 ^ 53
high_bits word h = omega arith

-- `double` is exactly (word >> 11) / 2^53
pub double_exact : (word : ℕ) → word < 2 ^ 64 → Exactly binary64 (double_of word) (word / 2 ^ 11) 53
double_exact word h = dyadic_exact binary64 (word / 2 ^ 11) 53 (high_bits word h) (high_bits word h) (lit≤ tt)

dyadic_le : (n m k : ℕ) → n ≤ m → m < 2 ^ k → T (le (dyadic n k) (dyadic m k))
dyadic_le n m k h M =
    le_of_values (dyadic n k) (dyadic m k) n (2 ^ k) m (2 ^ k) (pow_pos k) (pow_pos k)
    (dyadic_value n k (lt_of_le_of_lt h M)) (dyadic_value m k M) (mul-le-mul_right (2 ^ k) h)

-- `double` is never above 1 - 2^-53, which is (2^53 - 1) * 2^-53
pub double_never_above : (word : ℕ) → word < 2 ^ 64 → T (le (double_of word) (fin false (2 ^ 53 - 1) (negsuc 52)))
unfolding dyadic
double_never_above word h =
    let under : word / 2 ^ 11 ≤ 2 ^ 53 - 1 = omega arith in
    dyadic_le (word / 2 ^ 11) (2 ^ 53 - 1) 53 under (lit< tt)

-- and never below 0
pub double_never_below_zero : (word : ℕ) → word < 2 ^ 64 → T (le (fin false 0 (pos 0)) (double_of word))
unfolding dyadic
double_never_below_zero word h = dyadic_le 0 (word / 2 ^ 11) 53 zero-le (high_bits word h)
