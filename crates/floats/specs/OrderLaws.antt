-- IEEE 754's comparisons, by the whole numbers: among finite floats `le y x` is the opposite of `lt x y`, and what the tests with 0
-- and with 1 say.
use Rattle.std.specs.Prelude.{◌≡◌, refl, ◌⊎◌, ℕ, zero, suc, ◌+◌, ◌*◌, ◌≤◌, ◌<◌, Bool, true, false, not, ◌&&◌, ◌||◌, ℤ, pos, T, ltb, leb}
use Rattle.std.specs.Prelude.{eqb, Float}
use Rattle.std.proofs.Common.{sym, inl, inr, ⊎_elim, zero-le, add_comm, zero-lt-suc, le_of_lt, le_of_eq, eq-or-lt_of_le, eq-zero-or-pos}
use Rattle.std.proofs.Common.{mul-one, one-mul, zero-mul, mul-pos, arith, lt-ltb, le-ltb, le-leb, eq-eqb, ne_eqb, ltb→lt, nltb→le}
use Rattle.std.proofs.Math.Bool.{and-false, or-not_self}
use Rattle.std.proofs.lemmas.Bool.{false≢true, lt-leb}
use Rattle.std.specs.Float.{nan, inf, fin}
use Rattle.std.specs.Float.Ieee.{up, down, lt, le}
use Rattle.std.specs.Float.Ieee.Fits.{up_pos}
use Rattle.std.specs.Float.Ieee.Scale.{finite}

-- ---- the order of two numbers, and of their opposites
data Sides (a b : ℕ) : Type 0 where
  under : a < b → Sides a b
  level : a ≡ b → Sides a b
  over : b < a → Sides a b

lt_or_le : (a b : ℕ) → (a < b) ⊎ (b ≤ a)
lt_or_le a b = go (ltb a b) (ltb→lt a b) (nltb→le a b)
  where
    go : (t : Bool) → (T t → a < b) → (T (not t) → b ≤ a) → (a < b) ⊎ (b ≤ a)
    go true l g = inl (l tt)
    go false l g = inr (g tt)

sides : (a b : ℕ) → Sides a b
sides a b = ⊎_elim under (λ h. ⊎_elim (λ e. level (sym e)) over (eq-or-lt_of_le h)) (lt_or_le a b)

same_sign : (a b : ℕ) (e : Bool) → (a ≡ b → e ≡ true) → ((a ≡ b → ⊥) → e ≡ false) → (ltb b a || (e && true)) ≡ not (ltb a b)
same_sign a b e yes' no' = go (sides a b)
  where
    go : Sides a b → (ltb b a || (e && true)) ≡ not (ltb a b)
    go (under h) = rw (le-ltb b a (le_of_lt h), lt-ltb a b h, no' (λ q. omega arith))
    go (level h) = rw (le-ltb b a (le_of_eq h), le-ltb a b (le_of_eq (sym h)), yes' h)
    go (over h) = rw (lt-ltb b a h, le-ltb a b (le_of_lt h))

negative_first : (a b : ℕ) → (eqb b a && (false || eqb b 0)) ≡ not (ltb 0 (a + b))
negative_first a b = ⊎_elim (λ z. none a b z) (λ h. some a b h) (eq-zero-or-pos (a + b))
  where
    none : (a b : ℕ) → a + b ≡ 0 → (eqb b a && (false || eqb b 0)) ≡ not (ltb 0 (a + b))
    none a b z =
        let p : a ≡ 0 = omega arith in
        let q : b ≡ 0 = omega arith in
        rw (p, q)

    some : (a b : ℕ) → 0 < a + b → (eqb b a && (false || eqb b 0)) ≡ not (ltb 0 (a + b))
    some a b h =
        ⊎_elim
        (λ z. rw (lt-ltb 0 (a + b) h, ne_eqb b a (λ e. omega arith)))
        (λ k. rw (lt-ltb 0 (a + b) h, ne_eqb b 0 (λ e. omega arith), and-false))
        (eq-zero-or-pos b)

unlike_signs : (a b : ℕ) → (ltb 0 (b + a) || (eqb b a && (false || eqb b 0))) ≡ true
unlike_signs a b = rw (negative_first a b, add_comm b a) (or-not_self (ltb 0 (a + b)))

-- ---- at least: not below
pub total : (x y : Float) → finite x ≡ true → finite y ≡ true → le y x ≡ not (lt x y)
unfolding le
total nan y p q = absurd (false≢true p)
total (inf s) y p q = absurd (false≢true p)
total (fin s m e) nan p q = absurd (false≢true q)
total (fin s m e) (inf t) p q = absurd (false≢true q)
total (fin false m e) (fin false n d) p q =
    let a = m * up e * down d in
    let b = n * up d * down e in
    same_sign a b (eqb b a) (λ h. eq-eqb b a (sym h)) (λ h. ne_eqb b a (λ k. h (sym k)))
total (fin false m e) (fin true n d) p q = unlike_signs (m * up e * down d) (n * up d * down e)
total (fin true m e) (fin false n d) p q = negative_first (m * up e * down d) (n * up d * down e)
total (fin true m e) (fin true n d) p q =
    let a = m * up e * down d in
    let b = n * up d * down e in
    same_sign b a (eqb b a) (eq-eqb b a) (ne_eqb b a)

-- ---- the tests with 0 and with 1
abbrev pub zero_float : Float
zero_float = fin false 0 (pos 0)

-- the float 1
abbrev pub one_float : Float
one_float = fin false 1 (pos 0)

-- -m * 2 ^ e is below 0 where m is not 0
pub negative_below_zero : (m : ℕ) (e : ℤ) → lt (fin true m e) zero_float ≡ not (eqb m 0)
unfolding lt
negative_below_zero zero e = rw (zero-mul (up e), zero-mul (down e))
negative_below_zero (suc m) e =
    let more : 0 < suc m * up e * 1 + 0 * down e = omega (arith, mul-pos (zero-lt-suc m) (up_pos e)) in
    rw (lt-ltb _ _ more, ne_eqb (suc m) 0 (λ q. omega arith))

-- m * 2 ^ e is not below 0
pub positive_not_below_zero : (m : ℕ) (e : ℤ) → lt (fin false m e) zero_float ≡ false
unfolding lt
positive_not_below_zero m e = rw (zero-mul (down e), le-ltb (m * up e * 1) 0 zero-le)

pub negative_not_above_one : (m : ℕ) (e : ℤ) → lt one_float (fin true m e) ≡ false
unfolding lt
negative_not_above_one m e = refl

-- 1 is below m * 2 ^ e where m * up e ≤ down e does not hold
pub one_below : (m : ℕ) (e : ℤ) → lt one_float (fin false m e) ≡ not (leb (m * up e) (down e))
unfolding lt
one_below m e = rw (one-mul (down e), mul-one (m * up e)) (over (down e) (m * up e))
  where
    over : (a b : ℕ) → ltb a b ≡ not (leb b a)
    over a b = ⊎_elim (λ h. rw (lt-ltb a b h, lt-leb b a h)) (λ h. rw (le-ltb a b h, le-leb b a h)) (lt_or_le a b)
