-- A float of a format is a whole number of the format's smallest value, its unit; so two that differ are a unit apart at least, and of a
-- unit or more rounding makes no 0.
use Rattle.std.specs.Prelude.{◌≡◌, Bool, true, false, ◌&&◌, cond, ℤ, pos, negsuc, T, ltb, leb, eqb, Float}
use Rattle.std.proofs.Common.{sym, ap, ◌∙◌, subst, le_trans, le_of_eq, lt_of_lt_of_le, lt_irrefl, not-le_of_lt, lt_of_not-le, zero-lt-suc}
use Rattle.std.proofs.Common.{zero-mul, one-mul, mul_comm, mul_assoc, mul_left_comm, mul-pos, mul-le-mul_right, mul-lt-mul_of_pos_right}
use Rattle.std.proofs.Common.{le-div_iff_mul-le, lt_of_mul-lt-mul_right, arith, leb→le, eqb→eq, pow-add, pow_pos}
use Prim.Native.Nat.{ℕ, zero, suc, ◌+◌, ◌-◌, ◌*◌, ◌/◌, ◌%◌, ◌^◌, ◌≤◌, ◌<◌, suc-le-suc, compare}
use Rattle.std.proofs.Math.Nat.{mul-sub, div-div-eq-div-mul}
use Rattle.std.proofs.lemmas.Bool.{false≢true}
use Rattle.std.proofs.Math.Pow.{pow-lt}
use Rattle.std.specs.Float.{inf, fin, Format}
use Rattle.std.specs.Float.Ieee.{prec, emax, low, up, down, size, odd, units, round, fits}
use Rattle.std.specs.Float.Ieee.Digits.{size-lt, size_reaches, back}
use Rattle.std.specs.Float.Ieee.Exact.{HasValue, odd_sign}
use Rattle.std.specs.Float.Ieee.Fits.{and_l, and_r, down_pos, round_is, two, two-le_pos}
use Rattle.std.specs.Float.Ieee.Nearest.{nearest-ge}
use Rattle.std.specs.Float.Ieee.Order.{drop, kept}
use Rattle.std.specs.Float.Ieee.Scale.{finite}

-- ---- whole numbers of units of 2 ^ -low

-- 2 ^ low is a whole number of times the denominator of 2 ^ e, where that is no larger,
pub whole : (f : Format) (e : ℤ) → down e ≤ 2 ^ low f → (n : ℕ) × (2 ^ low f ≡ down e * n)
whole f (pos k) h = (2 ^ low f, sym (one-mul (2 ^ low f)))
whole f (negsuc k) h =
    let small : suc k ≤ low f = lt_of_not-le (λ (g : low f ≤ k). not-le_of_lt (pow-lt (suc-le-suc g)) h) in
    let split : low f - suc k + suc k ≡ low f = back (low f) (suc k) small in
    let rest = 2 ^ (low f - suc k) in
    (rest, ap (λ (z : ℕ). 2 ^ z) (sym split) ∙ pow-add 2 (low f - suc k) (suc k) ∙ mul_comm rest (2 ^ suc k))

-- and in a float of the format it is no larger
pub held : (f : Format) (s : Bool) (m : ℕ) (e : ℤ) → T (fits f (fin s m e)) → down e ≤ 2 ^ low f
unfolding fits
held f s zero (pos k) h = pow_pos (low f)
held f s zero (negsuc k) h = le_trans (le_of_eq (sym (one-mul (2 ^ suc k)) ∙ eqb→eq (1 * 2 ^ suc k) 1 h)) (pow_pos (low f))
held f s (suc m) e h =
    let a = eqb (suc m % 2) 1 && ltb (suc m) (2 ^ prec f) in
    let b = leb (down e) (2 ^ low f) in
    leb→le (down e) (2 ^ low f) (and_r a b (and_l (a && b) (ltb (suc m * up e) (2 ^ suc (emax f) * down e)) h))

-- so two of them, A / p above B / q, are at least one unit of 1 / l apart
pub apart : (A B p q E D l : ℕ) → 0 < l → l ≡ p * E → l ≡ q * D → B * p < A * q → p * q ≤ (A * q - B * p) * l
apart A B p q E D l L u v h =
    let a : A * q * l ≡ A * E * (p * q) = ap (λ (z : ℕ). A * q * z) u ∙ simp (mul_assoc, mul_comm, mul_left_comm) in
    let b : B * p * l ≡ B * D * (p * q) = ap (λ (z : ℕ). B * p * z) v ∙ simp (mul_assoc, mul_comm, mul_left_comm) in
    let over : B * D * (p * q) < A * E * (p * q) = rw (sym a, sym b) (mul-lt-mul_of_pos_right h L) in
    let more : suc (B * D) * (p * q) ≤ A * E * (p * q) = mul-le-mul_right (p * q) (lt_of_mul-lt-mul_right (p * q) over) in
    let parts : (A * q - B * p) * l ≡ A * q * l - B * p * l = mul_comm (A * q - B * p) l ∙ mul-sub l (A * q) (B * p) ∙ simp mul_comm in
    rw parts (last (A * q * l) (B * p * l) (A * E * (p * q)) (B * D) (p * q) a b more)
  where
    last : (x y z w c : ℕ) → x ≡ z → y ≡ w * c → suc w * c ≤ z → c ≤ x - y
    last x y z w c e g h = omega arith

-- ---- rounding gives no 0 of a unit or more

-- a number above 0 has a digit
digits : (w z : ℕ) → 0 < w → w < 2 ^ z → 0 < z
digits w zero h l = absurd (omega arith)
digits w (suc z) h l = zero-lt-suc z

-- of n / c, a unit or more, something is kept
kept_some : (p n c : ℕ) → 0 < p → 0 < c → c ≤ n → 0 < kept p n c
kept_some p n c P C h =
    let k = drop p n c in
    let one : 1 ≤ n / c = (le-div_iff_mul-le C).1 (le_trans (le_of_eq (one-mul c)) h) in
    let fewer : k < size (n / c) = less (size (n / c)) p (digits (n / c) (size (n / c)) one (size-lt (n / c))) P in
    let u = c * 2 ^ k in
    let most = le_trans (le_of_eq (one-mul (2 ^ k))) (size_reaches (n / c) k fewer) in
    let reaches : 1 ≤ n / c / 2 ^ k = (le-div_iff_mul-le (pow_pos k)).1 most in
    lt_of_lt_of_le (rw (sym (div-div-eq-div-mul n c (2 ^ k))) reaches) (nearest-ge (n / u) (compare (n % u * 2) u))
  where
    less : (z p : ℕ) → 0 < z → 0 < p → z - p < z
    less z p h g = omega arith

-- so the float is not 0
units_some : (f : Format) (s : Bool) (q k : ℕ) → 0 < q → (e : ℤ) → units f s q k ≡ fin s 0 e → ⊥
unfolding units
units_some f s q k h e = go (ltb (q * 2 ^ k) (2 ^ (low f + suc (emax f))))
  where
    none : (u l : ℕ) → 0 < u → 0 * up e * l ≡ u → ⊥
    none u l h g = lt_irrefl 0 (lt_of_lt_of_le h (le_of_eq (sym g ∙ ap (λ (z : ℕ). z * l) (zero-mul (up e)) ∙ zero-mul l)))

    go : (b : Bool) → cond b (odd (suc (prec f)) s q k (low f)) (inf s) ≡ fin s 0 e → ⊥
    go false g = false≢true (ap finite g)
    go true g =
        none (q * 2 ^ k * down e) (2 ^ low f) (mul-pos (mul-pos h (pow_pos k)) (down_pos e))
        (subst (λ (x : Float). HasValue x s (q * 2 ^ k) (2 ^ low f)) g (odd_sign (suc (prec f)) s q k (low f))).1

-- nor is what is rounded
pub round_some : (f : Format) (s : Bool) (a c : ℕ) → 0 < c → c ≤ a * 2 ^ low f → (e : ℤ) → round f s a c ≡ fin s 0 e → ⊥
round_some f s a c C h e g =
    units_some f s _ _ (kept_some (prec f) (a * 2 ^ low f) c (two-le_pos (prec f) (two f)) C h) e (sym (round_is f s a c) ∙ g)
