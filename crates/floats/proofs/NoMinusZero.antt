-- `uniform` never gives -0.0. The difference of the ends has no minus sign, nor has the double, nor their product; and a sum of low and
-- that product which has one is a unit or more in size.
use Rattle.std.specs.Prelude.{◌≡◌, refl, ℕ, zero, suc, ◌-◌, ◌*◌, ◌/◌, ◌^◌, ◌≤◌, ◌<◌, Bool, true, false, ◌&&◌, cond, ℤ, pos, T, ltb, Float}
use Rattle.std.proofs.Common.{sym, ap, ◌∙◌, mul-pos, true≢false, ltb→lt, pow_pos}
use Rattle.std.proofs.lemmas.Bool.{false≢true}
use Rattle.std.specs.Float.{nan, inf, fin, Format, binary64}
use Rattle.std.specs.Float.Ieee.{low, up, down, round, sum, add, mul, fits, of_bits}
use Rattle.std.specs.Float.Ieee.Fits.{down_pos, mul-fits}
use Rattle.std.specs.Float.Ieee.Scale.{finite}
use Rattle.floats.specs.Intervals.{width, interval_refusal, number_in, answered, uniform_of}
use Rattle.floats.proofs.IntervalLaws.{taken_iff}
use Rattle.floats.specs.Units.{double_of}
use Rattle.floats.specs.declared.intervals.Interval.{Interval}
use Rattle.floats.specs.declared.intervals.Uniform.{Uniform}
use Rattle.floats.specs.declared.intervals.Uniform.TheVariants.{Number, Refused}
use Rattle.floats.specs.SignLaws.{has_minus, round_sign, dyadic_sign, product_sign, above_sign}
use Rattle.floats.specs.UnitsApart.{whole, held, apart, round_some}

-- -0.0, by its bits
pub minus_zero_is : of_bits binary64 0x8000_0000_0000_0000 ≡ fin true 0 (pos 0)
unfolding of_bits
minus_zero_is = refl

-- ---- the sum

-- what has no minus sign is no -0
unsigned : (x : Float) → has_minus x ≡ false → (e : ℤ) → x ≡ fin true 0 e → ⊥
unsigned x h e g = false≢true (sym h ∙ ap has_minus g)

-- x + y is not -0 where y has no minus sign
pub sum_not_minus_zero : (f : Format) (x y : Float) → T (fits f x) → T (fits f y) → finite x ≡ true → has_minus y ≡ false
    → (e : ℤ) → add f x y ≡ fin true 0 e → ⊥
unfolding add sum
sum_not_minus_zero f nan y v w p q e g = false≢true p
sum_not_minus_zero f (inf s) y v w p q e g = false≢true p
sum_not_minus_zero f (fin s m d) nan v w p q e g = false≢true (ap finite g)
sum_not_minus_zero f (fin s m d) (inf t) v w p q e g = false≢true (ap finite g)
sum_not_minus_zero f (fin s m d) (fin true n k) v w p q e g = true≢false q
sum_not_minus_zero f (fin false m d) (fin false n k) v w p q e g = unsigned _ (round_sign f false _ _) e g
sum_not_minus_zero f (fin true m d) (fin false n k) v w p q e g =
    go (ltb a b) (ltb b a) (ltb→lt b a) g
  where
    a : ℕ
    a = m * up d * down k

    b : ℕ
    b = n * up k * down d

    c : ℕ
    c = down d * down k

    room : b < a → c ≤ (a - b) * 2 ^ low f
    room h =
        let x = whole f d (held f true m d v) in
        let y = whole f k (held f false n k w) in
        apart (m * up d) (n * up k) (down d) (down k) x.0 y.0 (2 ^ low f) (pow_pos (low f)) x.1 y.1 h

    go : (under over : Bool) → (T over → b < a) → cond under (round f false (b - a) c) (round f (true && over) (a - b) c) ≡ fin true 0 e → ⊥
    go true over h g = unsigned _ (round_sign f false _ _) e g
    go false false h g = unsigned _ (round_sign f false _ _) e g
    go false true h g = round_some f true (a - b) c (mul-pos (down_pos d) (down_pos k)) (room (h tt)) e g

-- `uniform`, on every interval that is taken and every word: low is a float of the format, as every f64 is
pub never_minus_zero : (i : Interval) (word : ℕ) → T (fits binary64 i.low) → interval_refusal i ≡ 0
    → (e : ℤ) → number_in i word ≡ fin true 0 e → ⊥
unfolding number_in
never_minus_zero i word v h =
    let t = (taken_iff i).0 h in
    let between = above_sign binary64 i.low i.high t.0 t.1 t.2 in
    let product = product_sign binary64 (width i) (double_of word) between (dyadic_sign (word / 2 ^ 11) 53) in
    let fitting = mul-fits binary64 (width i) (double_of word) in
    sum_not_minus_zero binary64 i.low (mul binary64 (width i) (double_of word)) v fitting t.0 product

-- so no answer of `uniform_of` is -0.0
pub answer_never_minus_zero : (i : Interval) (word : ℕ) → T (fits binary64 i.low)
    → (e : ℤ) → uniform_of i word ≡ Number (fin true 0 e) → ⊥
answer_never_minus_zero i word v e = go (interval_refusal i) (λ z. never_minus_zero i word v z e)
  where
    drawn : Uniform → Float
    drawn (Number x) = x
    drawn (Refused k) = nan

    go : (k : ℕ) → (k ≡ 0 → number_in i word ≡ fin true 0 e → ⊥) → answered k (number_in i word) ≡ Number (fin true 0 e) → ⊥
    go zero none g = none refl (ap drawn g)
    go (suc k) none g = false≢true (ap (λ (u : Uniform). finite (drawn u)) g)
