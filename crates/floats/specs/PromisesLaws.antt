-- Each promise leaves one answer: two that both meet it are equal.
use Rattle.std.specs.Prelude.{Bool, Result, Ok, Err, ◌≡◌, ℕ, Float}
use Rattle.std.proofs.Common.{sym, ◌∙◌, ap, arith}
use Rattle.floats.specs.Promises.{ChancePromise, ChanceRefusalPromise, DoubleOfPromise, EndsAreFinitePromise, FloatOfPromise}
use Rattle.floats.specs.Promises.{IntervalRefusalPromise, IsChancePromise, IsOutOfOrderPromise, UniformOfPromise}
use Rattle.words.specs.NumbersLaws.{one_number, number_positive}
use Rattle.words.specs.declared.refusal.Refusal.{Refusal}
use Rattle.floats.specs.Chances.{Coin, coin}
use Rattle.floats.specs.declared.intervals.Interval.{Interval}
use Rattle.floats.specs.declared.intervals.Uniform.{Uniform}

pub one_is_chance : (p : Float) {a b : Bool} → IsChancePromise p a → IsChancePromise p b → a ≡ b
one_is_chance p h k = h ∙ sym k

pub one_chance_refusal : (p : Float) {a b : ℕ} → ChanceRefusalPromise p a → ChanceRefusalPromise p b → a ≡ b
one_chance_refusal p h k = h ∙ sym k

pub one_chance : (p : Float) (word : ℕ) {a b : Coin} → ChancePromise p word a → ChancePromise p word b → a ≡ b
one_chance p word h k = h ∙ sym k

-- Two coins of the code that say the same in document 01's numbers are the same.
pub coin_same : (a b : Result Bool Refusal) → coin a ≡ coin b → a ≡ b
coin_same (Ok x) (Ok y) e = ap (λ (c : Coin). Ok c.value) e
coin_same (Err r) (Err q) e = ap Err (one_number (ap (λ (c : Coin). c.refusal) e))
coin_same (Ok x) (Err q) e = absurd (let some = number_positive q in omega (arith, some, ap (λ (c : Coin). c.refusal) e))
coin_same (Err r) (Ok y) e = absurd (let some = number_positive r in omega (arith, some, ap (λ (c : Coin). c.refusal) e))

pub one_ends_are_finite : (i : Interval) {a b : Bool} → EndsAreFinitePromise i a → EndsAreFinitePromise i b → a ≡ b
one_ends_are_finite i p q = p ∙ sym q

pub one_is_out_of_order : (i : Interval) {a b : Bool} → IsOutOfOrderPromise i a → IsOutOfOrderPromise i b → a ≡ b
one_is_out_of_order i p q = p ∙ sym q

pub one_interval_refusal : (i : Interval) {a b : ℕ} → IntervalRefusalPromise i a → IntervalRefusalPromise i b → a ≡ b
one_interval_refusal i p q = p ∙ sym q

pub one_uniform_of : (i : Interval) (word : ℕ) {a b : Uniform} → UniformOfPromise i word a → UniformOfPromise i word b → a ≡ b
one_uniform_of i word p q = p ∙ sym q

pub one_float_of : (word : ℕ) {a b : Float} → FloatOfPromise word a → FloatOfPromise word b → a ≡ b
one_float_of word p q = p ∙ sym q

pub one_double_of : (word : ℕ) {a b : Float} → DoubleOfPromise word a → DoubleOfPromise word b → a ≡ b
one_double_of word p q = p ∙ sym q
