-- Finite floats, by the whole numbers: what the tests with the infinities and std's test say, what is not finite, and that a difference
-- of finite floats is no NaN, so that one which is not finite has overflowed.
use Rattle.std.specs.Prelude.{◌≡◌, refl, ◌⊎◌, ℕ, zero, suc, ◌+◌, ◌-◌, ◌*◌, ◌^◌, Bool, true, false, not, ◌&&◌, cond, ltb, Float}
use Rattle.std.proofs.Common.{sym, ap, ◌∙◌, inl, inr, true≢false}
use Rattle.std.specs.Bool.{beq}
use Rattle.std.proofs.lemmas.Bool.{false≢true}
use Rattle.std.specs.Float.{nan, inf, fin, float_is_finite, Format}
use Rattle.std.specs.Float.Ieee.{prec, low, up, down, odd, units, round, sum, add, sub, neg, lt, is_nan}
use Rattle.std.specs.Float.Ieee.Fits.{round_is}
use Rattle.std.specs.Float.Ieee.Scale.{finite, overflow}

-- ---- finite: below the one infinity and above the other
pub finite_tests : (x : Float) → finite x ≡ (lt x (inf false) && lt (inf true) x)
unfolding lt
finite_tests nan = refl
finite_tests (inf true) = refl
finite_tests (inf false) = refl
finite_tests (fin s m e) = refl

-- std's test
pub finite_is : (x : Float) → float_is_finite x ≡ finite x
unfolding float_is_finite
finite_is nan = refl
finite_is (inf true) = refl
finite_is (inf false) = refl
finite_is (fin s m e) = refl

-- ---- NaN or infinite: what is not finite
abbrev pub Infinite : Float → Type 0
Infinite x = (s : Bool) × (x ≡ inf s)

-- a NaN or an infinity
abbrev pub NotFinite : Float → Type 0
NotFinite x = (is_nan x ≡ true) ⊎ Infinite x

-- what is not finite is one of these, and none of these is finite
pub not_finite_lem : (x : Float) → finite x ≡ false → NotFinite x
not_finite_lem nan h = inl (unfold is_nan in refl)
not_finite_lem (inf s) h = inr (s, refl)
not_finite_lem (fin s m e) h = absurd (true≢false h)

pub never_finite : (x : Float) → NotFinite x → finite x ≡ false
unfolding is_nan
never_finite x (inr q) = ap finite q.1
never_finite nan (inl q) = refl
never_finite (inf s) (inl q) = refl
never_finite (fin s m e) (inl q) = absurd (false≢true q)

-- ---- a difference of finite floats
units_number : (f : Format) (s : Bool) (q k : ℕ) → is_nan (units f s q k) ≡ false
unfolding units odd is_nan
units_number f s q k = go q (ltb (q * 2 ^ k) (overflow f))
  where
    go : (q : ℕ) (b : Bool) → is_nan (cond b (odd (suc (prec f)) s q k (low f)) (inf s)) ≡ false
    go q false = refl
    go zero true = refl
    go (suc q) true = refl

round_number : (f : Format) (s : Bool) (a c : ℕ) → is_nan (round f s a c) ≡ false
round_number f s a c = ap is_nan (round_is f s a c) ∙ units_number f s _ _

sum_number : (f : Format) (s t : Bool) (a b c : ℕ) → is_nan (sum f s a t b c) ≡ false
unfolding sum
sum_number f s t a b c = go (beq s t) (ltb a b)
  where
    go : (p q : Bool) → is_nan (cond p (round f s (a + b) c) (cond q (round f t (b - a) c) (round f (s && ltb b a) (a - b) c))) ≡ false
    go true q = round_number f s (a + b) c
    go false true = round_number f t (b - a) c
    go false false = round_number f (s && ltb b a) (a - b) c

difference_number : (f : Format) (x y : Float) → finite x ≡ true → finite y ≡ true → is_nan (sub f x y) ≡ false
unfolding sub add neg
difference_number f nan y p q = absurd (false≢true p)
difference_number f (inf s) y p q = absurd (false≢true p)
difference_number f (fin s m e) nan p q = absurd (false≢true q)
difference_number f (fin s m e) (inf t) p q = absurd (false≢true q)
difference_number f (fin s m e) (fin t n d) p q = sum_number f s (not t) (m * up e * down d) (n * up d * down e) (down e * down d)

-- so a difference of finite floats that is not finite is an infinity
pub overflowed : (f : Format) (x y : Float) → finite x ≡ true → finite y ≡ true → finite (sub f x y) ≡ false → Infinite (sub f x y)
overflowed f x y p q h = go (not_finite_lem (sub f x y) h)
  where
    go : NotFinite (sub f x y) → Infinite (sub f x y)
    go (inl z) = absurd (false≢true (sym (difference_number f x y p q) ∙ z))
    go (inr z) = z
