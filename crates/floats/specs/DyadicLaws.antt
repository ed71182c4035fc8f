-- `dyadic n k` is the float that is n / 2 ^ k, in any format (`dyadic_exact`): it has that value, and the format holds it.
use Rattle.std.specs.Prelude.{◌≡◌, refl, ◌⊎◌, ℕ, zero, suc, ◌*◌, ◌/◌, ◌%◌, ◌^◌, ◌≤◌, ◌<◌, Bool, false, ◌&&◌, negsuc, T, ltb, leb, eqb}
use Rattle.std.proofs.Common.{sym, ap, ◌∙◌, inl, inr, ⊎_elim, le_of_lt, lt_of_lt_of_le, lt_of_le_of_lt, zero-lt-suc, mul-one, one-mul}
use Rattle.std.proofs.Common.{mul_comm, mul_assoc, eq-zero-or-pos, mul-le-mul_right, div-lt_iff_lt-mul, pow-suc, arith, eq-eqb, ne_eqb}
use Rattle.std.proofs.Common.{lt→ltb, le→leb, pow_pos, pow_mono}
use Rattle.std.specs.Float.{fin, Format}
use Rattle.std.specs.Float.Ieee.{prec, emax, low, fits}
use Rattle.std.specs.Float.Ieee.Exact.{HasValue}
use Rattle.std.specs.Float.Ieee.Fits.{and_i, eq→eqb}
use Rattle.floats.specs.ExactValue.{Exactly, rescale}
use Rattle.floats.specs.Units.{dyadic}

-- ---- halving

-- a number is even or odd
pub parity : (n : ℕ) → (n % 2 ≡ 0) ⊎ (n % 2 ≡ 1)
parity n = ⊎_elim inl (λ more. inr (omega arith)) (eq-zero-or-pos (n % 2))

half_lt : (n k : ℕ) → n < 2 ^ suc k → n / 2 < 2 ^ k
half_lt n k h = (div-lt_iff_lt-mul (zero-lt-suc 1)).1 (rw pow-suc at h)

half_le : (n : ℕ) → n / 2 ≤ n
half_le n = omega arith

-- an even n over 2 ^ (k + 1) is n / 2 over 2 ^ k
twice : (n k : ℕ) → n % 2 ≡ 0 → n * 2 ^ k ≡ n / 2 * 2 ^ suc k
twice n k e =
    ap (λ (z : ℕ). z * 2 ^ k) even
    ∙ mul_assoc (n / 2) 2 (2 ^ k)
    ∙ ap (λ (z : ℕ). n / 2 * z) (mul_comm 2 (2 ^ k) ∙ sym (pow-suc 2 k))
  where
    even : n ≡ n / 2 * 2
    even = omega arith

-- the definition's two cases
dyadic_even : (n k : ℕ) → n % 2 ≡ 0 → dyadic n (suc k) ≡ dyadic (n / 2) k
unfolding dyadic
dyadic_even n k e = rw (eq-eqb (n % 2) 0 e)

dyadic_odd : (n k : ℕ) → n % 2 ≡ 1 → dyadic n (suc k) ≡ fin false n (negsuc k)
unfolding dyadic
dyadic_odd n k o = rw (ne_eqb (n % 2) 0 (λ e. omega arith))

-- ---- its value

-- halving an even n keeps it, and an odd one is n * 2 ^ -k as it stands
pub dyadic_value : (n k : ℕ) → n < 2 ^ k → HasValue (dyadic n k) false n (2 ^ k)
unfolding dyadic
dyadic_value n zero h = (refl, only_zero n h)
  where
    only_zero : (n : ℕ) → n < 1 → 0 ≡ n * 1
    only_zero n h = omega arith
dyadic_value n (suc k) h =
    let half = dyadic_value (n / 2) k (half_lt n k h) in
    elim (parity n) [
      | inl even ↦
          rw (dyadic_even n k even)
          (rescale (dyadic (n / 2) k) false (n / 2) (2 ^ k) n (2 ^ suc k) (pow_pos k) (twice n k even) half)
      | inr odd ↦ rw (dyadic_odd n k odd) (refl, ap (λ (z : ℕ). z * 2 ^ suc k) (mul-one n))
    ]

-- ---- and the format holds it

all_four : (a b c d : Bool) → T a → T b → T c → T d → T (a && b && c && d)
all_four a b c d p q r s = and_i (a && b && c) d (and_i (a && b) c (and_i a b p q) r) s

-- an odd n is held where it has no more digits than the format keeps, and 2 ^ -(k + 1) is no smaller than the format's smallest value
odd_fits : (f : Format) (n k : ℕ) → n % 2 ≡ 1 → n < 2 ^ suc k → n < 2 ^ prec f → suc k ≤ low f → T (fits f (fin false n (negsuc k)))
unfolding fits
odd_fits f zero k o h p l = absurd (omega arith)
odd_fits f (suc m) k o h p l =
    let n = suc m in
    let u = 2 ^ suc k in
    let t = 2 ^ suc (emax f) in
    let some : u ≤ t * u = rw one-mul at (mul-le-mul_right u (pow_pos (suc (emax f)))) in
    let under : n * 1 < t * u = rw mul-one (lt_of_lt_of_le h some) in
    all_four (eqb (n % 2) 1) (ltb n (2 ^ prec f)) (leb u (2 ^ low f)) (ltb (n * 1) (t * u))
    (eq→eqb o) (lt→ltb n (2 ^ prec f) p) (le→leb u (2 ^ low f) (pow_mono l)) (lt→ltb (n * 1) (t * u) under)

-- by the same halving
pub dyadic_fits : (f : Format) (n k : ℕ) → n < 2 ^ k → n < 2 ^ prec f → k ≤ low f → T (fits f (dyadic n k))
unfolding dyadic
dyadic_fits f n zero h p l = unfold fits in tt
dyadic_fits f n (suc k) h p l =
    let half = dyadic_fits f (n / 2) k (half_lt n k h) (lt_of_le_of_lt (half_le n) p) (le_of_lt l) in
    elim (parity n) [
      | inl even ↦ rw (dyadic_even n k even) half
      | inr odd ↦ rw (dyadic_odd n k odd) (odd_fits f n k odd h p l)
    ]

-- so it is n / 2 ^ k with nothing lost
pub dyadic_exact : (f : Format) (n k : ℕ) → n < 2 ^ k → n < 2 ^ prec f → k ≤ low f → Exactly f (dyadic n k) n k
dyadic_exact f n k h p l = record { held = dyadic_fits f n k h p l; value = dyadic_value n k h }
