-- Signs: what is rounded keeps its sign, and of numbers without a minus sign none comes into a product, or into the difference of a larger
-- and a smaller float.
use Rattle.std.specs.Prelude.{◌≡◌, refl, ℕ, zero, suc, ◌+◌, ◌-◌, ◌*◌, ◌/◌, ◌%◌, ◌^◌, Bool, true, false, not, cond, negsuc, T, ltb, eqb}
use Rattle.std.specs.Prelude.{Float}
use Rattle.std.proofs.Common.{sym, ap, ◌∙◌, subst, le_of_lt, mul_comm, arith, le-ltb, ne_eqb, ltb→lt}
use Rattle.std.proofs.lemmas.Bool.{false≢true}
use Rattle.std.specs.Float.{nan, inf, fin, Format}
use Rattle.std.specs.Float.Ieee.{prec, emax, low, down, below, odd, units, round, sum, add, sub, mul, neg, lt}
use Rattle.std.specs.Float.Ieee.Fits.{round_is}
use Rattle.std.specs.Float.Ieee.Scale.{finite}
use Rattle.floats.specs.Units.{dyadic}

-- whether a float has a minus sign; a NaN has none
abbrev pub has_minus : Float → Bool
has_minus nan = false
has_minus (inf s) = s
has_minus (fin s m e) = s

-- what is rounded keeps its sign
units_sign : (f : Format) (s : Bool) (q k : ℕ) → has_minus (units f s q k) ≡ s
unfolding units odd
units_sign f s q k = go q (ltb (q * 2 ^ k) (2 ^ (low f + suc (emax f))))
  where
    go : (q : ℕ) (b : Bool) → has_minus (cond b (odd (suc (prec f)) s q k (low f)) (inf s)) ≡ s
    go q false = refl
    go zero true = refl
    go (suc q) true = refl

pub round_sign : (f : Format) (s : Bool) (a c : ℕ) → has_minus (round f s a c) ≡ s
round_sign f s a c = ap has_minus (round_is f s a c) ∙ units_sign f s _ _

-- n / 2 ^ k has none
pub dyadic_sign : (n k : ℕ) → has_minus (dyadic n k) ≡ false
unfolding dyadic
dyadic_sign n zero = refl
dyadic_sign n (suc k) = go (eqb (n % 2) 0) (dyadic_sign (n / 2) k)
  where
    go : (b : Bool) → has_minus (dyadic (n / 2) k) ≡ false → has_minus (cond b (dyadic (n / 2) k) (fin false n (negsuc k))) ≡ false
    go true h = h
    go false h = refl

-- nor has a product of two that have none
pub product_sign : (f : Format) (x y : Float) → has_minus x ≡ false → has_minus y ≡ false → has_minus (mul f x y) ≡ false
unfolding mul
product_sign f nan y p q = refl
product_sign f (inf s) nan p q = refl
product_sign f (inf s) (inf t) p q = rw (p, q)
product_sign f (inf s) (fin t zero d) p q = refl
product_sign f (inf s) (fin t (suc n) d) p q = rw (ne_eqb (suc n) 0 (λ z. omega arith), p, q)
product_sign f (fin s m e) nan p q = refl
product_sign f (fin s zero e) (inf t) p q = refl
product_sign f (fin s (suc m) e) (inf t) p q = rw (ne_eqb (suc m) 0 (λ z. omega arith), p, q)
product_sign f (fin s m e) (fin t n d) p q = rw (p, q) (round_sign f false _ _)

-- ±b / c less ±a / c, where the first is the larger one
difference_sign : (f : Format) (s t : Bool) (a b c : ℕ) → below s a t b ≡ true → has_minus (sum f t b (not s) a c) ≡ false
unfolding sum
difference_sign f false false a b c h = rw (le-ltb b a (le_of_lt (ltb→lt a b (subst T (sym h) tt)))) (round_sign f false (b - a) c)
difference_sign f false true a b c h = absurd (false≢true h)
difference_sign f true false a b c h = round_sign f false (b + a) c
difference_sign f true true a b c h = rw h (round_sign f false (a - b) c)

-- a difference of finite floats, the first above the second
pub above_sign : (f : Format) (x y : Float) → finite x ≡ true → finite y ≡ true → lt x y ≡ true → has_minus (sub f y x) ≡ false
unfolding lt sub add neg
above_sign f nan y p q h = absurd (false≢true p)
above_sign f (inf s) y p q h = absurd (false≢true p)
above_sign f (fin s m e) nan p q h = absurd (false≢true q)
above_sign f (fin s m e) (inf t) p q h = absurd (false≢true q)
above_sign f (fin s m e) (fin t n d) p q h = rw (mul_comm (down d) (down e)) (difference_sign f s t _ _ _ h)
