-- What follows of `uniform`'s definitions: each refusal both ways (document 01, "When the unit says no"), the order of the refusals, and
-- that no word has a part in them.
use Rattle.std.specs.Prelude.{◌≡◌, ◌↔◌, ◌⊎◌, ℕ, zero, suc, Bool, ◌&&◌, cond, Float}
use Rattle.std.proofs.Math.Path.{refl, sym, ap}
use Rattle.std.proofs.Common.{◌∙◌, arith}
use Rattle.std.proofs.Math.Logic.{inl, inr}
use Rattle.std.proofs.Math.Bool.{true, false, not, not-not, and-false}
use Rattle.std.proofs.lemmas.Bool.{false≢true}
use Rattle.std.specs.Float.Ieee.{binary64, lt, le}
use Rattle.std.specs.Float.Ieee.Scale.{finite}
use Rattle.words.specs.Refusal.{order, not_finite}
use Rattle.floats.specs.Intervals.{ends_are_finite, is_out_of_order, width, interval_refusal, number_in, answered, uniform_of, refusal_of}
use Rattle.floats.specs.OrderLaws.{total}
use Rattle.floats.specs.FiniteLaws.{Infinite, NotFinite, not_finite_lem, never_finite, overflowed}
use Rattle.floats.specs.declared.intervals.Interval.{Interval}
use Rattle.floats.specs.declared.intervals.Uniform.TheVariants.{Number, Refused}

-- ---- the refusal by the tests: the first fault that there is gives its number
module _ (i : Interval) where
  pub ends_refused : ends_are_finite i ≡ false → interval_refusal i ≡ not_finite
  unfolding interval_refusal
  ends_refused e = rw e

  pub order_refused : ends_are_finite i ≡ true → is_out_of_order i ≡ true → interval_refusal i ≡ order
  unfolding interval_refusal
  order_refused e o = rw (e, o)

  pub width_refused : ends_are_finite i ≡ true → is_out_of_order i ≡ false → finite (width i) ≡ false → interval_refusal i ≡ not_finite
  unfolding interval_refusal
  width_refused e o w = rw (e, o, w)

  pub accepted : ends_are_finite i ≡ true → is_out_of_order i ≡ false → finite (width i) ≡ true → interval_refusal i ≡ 0
  unfolding interval_refusal
  accepted e o w = rw (e, o, w)

-- ---- and the tests by the refusal
abbrev first : (ends out wide : Bool) → ℕ
first ends out wide = cond (not ends) not_finite (cond out order (cond (not wide) not_finite 0))

of_order : (e o w : Bool) → first e o w ≡ order → (e ≡ true) × (o ≡ true)
of_order false o w h = absurd (omega arith)
of_order true true w h = (refl, refl)
of_order true false false h = absurd (omega arith)
of_order true false true h = absurd (omega arith)

of_not_finite : (e o w : Bool) → first e o w ≡ not_finite → (e ≡ false) ⊎ ((e ≡ true) × (o ≡ false) × (w ≡ false))
of_not_finite false o w h = inl refl
of_not_finite true true w h = absurd (omega arith)
of_not_finite true false false h = inr (refl, refl, refl)
of_not_finite true false true h = absurd (omega arith)

of_none : (e o w : Bool) → first e o w ≡ 0 → (e ≡ true) × (o ≡ false) × (w ≡ true)
of_none false o w h = absurd (omega arith)
of_none true true w h = absurd (omega arith)
of_none true false false h = absurd (omega arith)
of_none true false true h = (refl, refl, refl)

both : (a b : Bool) → (a && b) ≡ true → (a ≡ true) × (b ≡ true)
both true true h = (refl, refl)
both true false h = absurd (false≢true h)
both false b h = absurd (false≢true h)

either : (a b : Bool) → (a && b) ≡ false → (a ≡ false) ⊎ (b ≡ false)
either true b h = inr h
either false b h = inl refl

-- ---- the refusals, both ways, and no others
-- 2: both ends are finite, and low ≥ high
abbrev pub OutOfOrder : Interval → Type 0
OutOfOrder i = (finite i.low ≡ true) × (finite i.high ≡ true) × (le i.high i.low ≡ true)

-- 7: an end is NaN or infinite; or low ≥ high does not hold, and high - low overflows
abbrev pub OutOfRange : Interval → Type 0
OutOfRange i = NotFinite i.low ⊎ NotFinite i.high ⊎ ((le i.high i.low ≡ false) × Infinite (width i))

-- none: both ends are finite, low < high, and high - low does not overflow
abbrev pub Taken : Interval → Type 0
Taken i = (finite i.low ≡ true) × (finite i.high ≡ true) × (lt i.low i.high ≡ true) × (finite (width i) ≡ true)

module _ (i : Interval) where
  ends : finite i.low ≡ true → finite i.high ≡ true → ends_are_finite i ≡ true
  ends p q = rw (p, q)

  -- 2 exactly where both ends are finite and low ≥ high
  pub order_iff : (interval_refusal i ≡ order) ↔ OutOfOrder i
  unfolding interval_refusal
  order_iff = (
    λ h.
        let t = of_order (ends_are_finite i) (is_out_of_order i) (finite (width i)) h in
        let e = both (finite i.low) (finite i.high) t.0 in
        (e.0, e.1, t.1),
    λ h. order_refused i (ends h.0 h.1) h.2,
  )

  -- none exactly where the interval can be drawn from
  pub taken_iff : (interval_refusal i ≡ 0) ↔ Taken i
  unfolding interval_refusal
  taken_iff = (
    λ h.
        let t = of_none (ends_are_finite i) (is_out_of_order i) (finite (width i)) h in
        let e = both (finite i.low) (finite i.high) t.0 in
        (e.0, e.1, sym (not-not _) ∙ ap not (sym (total i.low i.high e.0 e.1) ∙ t.1), t.2),
    λ h. accepted i (ends h.0 h.1) (total i.low i.high h.0 h.1 ∙ ap not h.2) h.3,
  )

  -- 7 exactly where an end is not finite, or high - low overflows with low < high
  pub not_finite_iff : (interval_refusal i ≡ not_finite) ↔ OutOfRange i
  unfolding interval_refusal
  not_finite_iff = (λ h. there (of_not_finite (ends_are_finite i) (is_out_of_order i) (finite (width i)) h), back)
    where
      there : (ends_are_finite i ≡ false) ⊎ ((ends_are_finite i ≡ true) × (is_out_of_order i ≡ false) × (finite (width i) ≡ false))
          → OutOfRange i
      there (inl h) = elim (either (finite i.low) (finite i.high) h) [
        | inl p ↦ inl (not_finite_lem i.low p)
        | inr p ↦ inr (inl (not_finite_lem i.high p))
      ]
      there (inr h) =
          let e = both (finite i.low) (finite i.high) h.0 in
          inr (inr (h.1, overflowed binary64 i.high i.low e.1 e.0 h.2))

      by_ends : (b : Bool) → ends_are_finite i ≡ b → is_out_of_order i ≡ false → finite (width i) ≡ false → interval_refusal i ≡ not_finite
      by_ends false e o w = ends_refused i e
      by_ends true e o w = width_refused i e o w

      back : OutOfRange i → interval_refusal i ≡ not_finite
      back (inl p) = ends_refused i (rw (never_finite i.low p))
      back (inr (inl p)) = ends_refused i (rw (never_finite i.high p) (and-false (finite i.low)))
      back (inr (inr p)) = by_ends (ends_are_finite i) refl p.0 (never_finite (width i) (inr p.1))

  -- and no other number
  pub no_others : (interval_refusal i ≡ 0) ⊎ (interval_refusal i ≡ order) ⊎ (interval_refusal i ≡ not_finite)
  unfolding interval_refusal
  no_others = go (ends_are_finite i) (is_out_of_order i) (finite (width i))
    where
      go : (e o w : Bool) → (first e o w ≡ 0) ⊎ (first e o w ≡ order) ⊎ (first e o w ≡ not_finite)
      go false o w = inr (inr refl)
      go true true w = inr (inl refl)
      go true false false = inr (inr refl)
      go true false true = inl refl

-- ---- the answer by the refusal, which no word has a part in
pub answered_refused : (k : ℕ) (v : Float) → (k ≡ 0 → ⊥) → answered k v ≡ Refused k
answered_refused zero v h = absurd (h refl)
answered_refused (suc k) v h = refl

pub uniform_taken : (i : Interval) (word : ℕ) → interval_refusal i ≡ 0 → uniform_of i word ≡ Number (number_in i word)
uniform_taken i word h = rw h

pub uniform_refused : (i : Interval) (word : ℕ) → (interval_refusal i ≡ 0 → ⊥) → uniform_of i word ≡ Refused (interval_refusal i)
uniform_refused i word h = answered_refused (interval_refusal i) (number_in i word) h

pub refusal_of_uniform : (i : Interval) (word : ℕ) → refusal_of (uniform_of i word) ≡ interval_refusal i
refusal_of_uniform i word = go (interval_refusal i)
  where
    go : (k : ℕ) → refusal_of (answered k (number_in i word)) ≡ k
    go zero = refl
    go (suc k) = refl
