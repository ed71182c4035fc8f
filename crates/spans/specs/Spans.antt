-- Numbers between two ends, both included (document 01, "Draws": `uint`, `int` and `range`), over any sequence of words.
use Rattle.std.specs.Prelude.{cond, ℕ, ◌+◌, ◌-◌, ◌^◌, ltb, eqb, ℤ, pos, ◌+ℤ◌}
use Rattle.std.specs.Int.Signed.{lt_z}
use Rattle.words.specs.Refusal.{answered, order, out_of_budget}
use Rattle.words.specs.declared.outcome.Outcome.{Outcome}
use Rattle.words.specs.Draw.{Words, refused, gives, bounded_by}
use Rattle.words.specs.Outcomes.{worked_on, raised}
use Rattle.signed.specs.Signed.{wrapped_sum, gap}
use Rattle.spans.specs.declared.counting.IntOutcome.{IntOutcome}

-- one raw word, which budget 0 does not allow
unfoldable pub raw_by : Words → ℕ → Outcome
raw_by s budget = cond (eqb budget 0) (refused out_of_budget) (gives (s 0) 1)

-- a number from 0 up to `last`: "min = max use no word and answer at budget 0. Over the full span of 2^32 values they take one raw word"
unfoldable pub span_by : Words → ℕ → ℕ → Outcome
span_by s last budget =
    cond (eqb last 0) (gives 0 0)
    (cond (eqb last (2 ^ 32 - 1)) (raw_by s budget)
    (bounded_by s (last + 1) budget))

-- `uint`: from min up to max; "min > max" is refused
unfoldable pub uint_by : Words → ℕ → ℕ → ℕ → Outcome
uint_by s min max budget = cond (ltb max min) (refused order) (raised min (span_by s (max - min) budget))

-- ---- with a signed value: what `int` tells is an `IntOutcome`, the code's own

-- "its number, value 0 and 0 words used" (document 01)
abbrev pub int_refused : ℕ → IntOutcome
int_refused number = record { refusal = number; value = pos 0; used = 0 }

-- an answered call
abbrev pub int_gives : ℤ → ℕ → IntOutcome
int_gives v n = record { refusal = answered; value = v; used = n }

-- an outcome whose value is read as f says; a refusal has value 0
unfoldable pub signed_by : (ℕ → ℤ) → Outcome → IntOutcome
signed_by f o = record { refusal = o.refusal; value = worked_on f (pos 0) o; used = o.used }

-- an answer counted from min, as integers,
unfoldable pub counted_from : ℤ → Outcome → IntOutcome
counted_from min = signed_by (λ v. min +ℤ pos v)

-- and as code of 32 bits counts: added modulo 2^32 and read back as signed
unfoldable pub counted_modulo : ℤ → Outcome → IntOutcome
counted_modulo min = signed_by (λ v. wrapped_sum 32 min v)

-- `int` and `range`: from min up to max, signed; "min > max" is refused
unfoldable pub int_by : Words → ℤ → ℤ → ℕ → IntOutcome
int_by s min max budget = counted_from min (cond (lt_z max min) (refused order) (span_by s (gap min max) budget))
