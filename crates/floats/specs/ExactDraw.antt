-- The draw as the code makes it, in any format: a whole number n, cast to a float and multiplied by 2 ^ -(k + 1), is `dyadic n (k + 1)`,
-- with nothing rounded on the way (`cast_exact`, `exact_draw`).
use Rattle.std.specs.Prelude.{◌≡◌, ℕ, suc, ◌+◌, ◌-◌, ◌*◌, ◌^◌, ◌≤◌, ◌<◌, true, false, pos, negsuc, T, Float}
use Rattle.std.proofs.Common.{sym, ap, ◌∙◌, le_of_lt, lt_of_lt_of_le, mul_assoc, mul-pos, arith, true≢false, le→leb, pow-add, pow_pos}
use Rattle.std.proofs.Common.{pow_mono, shl_lt}
use Rattle.std.proofs.Math.Nat.{mul-mul-mul_comm}
use Rattle.std.specs.Float.{nan, inf, fin, Format}
use Rattle.std.specs.Float.Ieee.{prec, emax, low, up, down, round, mul, of_int, in_float}
use Rattle.std.specs.Float.Ieee.Back.{round_whole}
use Rattle.std.specs.Float.Ieee.Digits.{back}
use Rattle.std.specs.Float.Ieee.Exact.{HasValue, round_exact}
use Rattle.std.specs.Float.Ieee.Fits.{down_pos, reach, mul-fits}
use Rattle.floats.specs.DyadicLaws.{dyadic_exact}
use Rattle.floats.specs.ExactValue.{rescale, one_such}
use Rattle.floats.specs.Units.{dyadic}

-- the cast loses nothing of a number with no more digits than the format keeps
pub cast_exact : (f : Format) (n : ℕ) → n < 2 ^ prec f → T (in_float f (pos n))
unfolding in_float
cast_exact f n h = le→leb n (2 ^ prec f) (le_of_lt h)

-- n * 2 ^ j of the format's smallest value is below the overflow
room : (f : Format) (n j : ℕ) → n < 2 ^ prec f → j ≤ low f → n * 2 ^ j < 2 ^ (low f + suc (emax f))
room f n j p h = lt_of_lt_of_le (shl_lt (prec f) j p) (pow_mono (add_both (prec f) j (low f) (suc (emax f)) (reach f) h))
  where
    add_both : (a b c d : ℕ) → a ≤ d → b ≤ c → a + b ≤ c + d
    add_both a b c d h k = omega arith

-- a float a / d that is the whole number n, over 2 ^ (k + 1), is a whole number of the format's smallest value, 2 ^ -low
whole_units : (f : Format) (n k a d : ℕ) → a ≡ n * d → suc k ≤ low f → a * 2 ^ low f ≡ n * 2 ^ (low f - suc k) * (d * 2 ^ suc k)
whole_units f n k a d e l =
    ap (λ (z : ℕ). z * 2 ^ low f) e ∙ ap (λ (z : ℕ). n * d * z) split ∙ mul-mul-mul_comm n d (2 ^ (low f - suc k)) (2 ^ suc k)
  where
    split : 2 ^ low f ≡ 2 ^ (low f - suc k) * 2 ^ suc k
    split = ap (λ (z : ℕ). 2 ^ z) (sym (back (low f) (suc k) l)) ∙ pow-add 2 (low f - suc k) (suc k)

-- so the product rounds nothing: it has the value n / 2 ^ (k + 1)
exact_product : (f : Format) (x : Float) (n k : ℕ) → HasValue x false n 1 → n < 2 ^ prec f → suc k ≤ low f
    → HasValue (mul f x (fin false 1 (negsuc k))) false n (2 ^ suc k)
unfolding mul
exact_product f nan n k v p l = absurd v
exact_product f (inf t) n k v p l = absurd v
exact_product f (fin true m e) n k v p l = absurd (true≢false v.0)
exact_product f (fin false m e) n k v p l =
    let u = 2 ^ suc k in
    let j = low f - suc k in
    let a = m * up e * (1 * 1) in
    let d = down e * u in
    let above : 0 < d = mul-pos (down_pos e) (pow_pos (suc k)) in
    let whole : a ≡ n * down e = v.1 in
    let same : n * d ≡ a * u = sym (mul_assoc n (down e) u) ∙ ap (λ (z : ℕ). z * u) (sym whole) in
    rescale (round f false a d) false a d n u above same
    (round_exact f false a d n j above p (room f n j p (less (low f) (suc k))) (whole_units f n k a (down e) whole l))
  where
    less : (a b : ℕ) → a - b ≤ a
    less a b = omega arith

-- both are n / 2 ^ (k + 1) with nothing lost, so they are one float
pub exact_draw : (f : Format) (n k : ℕ) → n < 2 ^ prec f → n < 2 ^ suc k → suc k ≤ low f
    → mul f (of_int f (pos n)) (fin false 1 (negsuc k)) ≡ dyadic n (suc k)
unfolding of_int
exact_draw f n k p h l =
    let cast = of_int f (pos n) in
    let unit = fin false 1 (negsuc k) in
    let cast-value = round_whole f false n (le_of_lt p) in
    one_such
    (record { held = mul-fits f cast unit; value = exact_product f cast n k cast-value p l })
    (dyadic_exact f n (suc k) h p l)
