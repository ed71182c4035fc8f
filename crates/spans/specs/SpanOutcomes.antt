-- Exactly one outcome for `uint`, `int` and `range`, said as a relation in document 01's words: when each is refused, and with which
-- number; and that an answer lies between the two ends.
use Rattle.std.specs.Prelude.{◌≡◌, refl, Bool, true, false, ◌↔◌, ℕ, zero, suc, ◌+◌, ◌-◌, ◌^◌, ◌≤◌, ◌<◌, ℤ, pos, ◌+ℤ◌, ◌≤ℤ◌}
use Rattle.std.proofs.Common.{◌∙◌, lt_of_not-le, arith}
use Rattle.std.proofs.Math.Path.{ap}
use Rattle.std.proofs.Math.Decide.{dec_le}
use Rattle.std.specs.Int.Signed.{lt_z}
use Rattle.words.specs.Refusal.{answered, order, out_of_budget}
use Rattle.words.specs.declared.outcome.Outcome.{Outcome}
use Rattle.words.specs.Draw.{Words, quotient, refused, gives}
use Rattle.words.specs.GoodWord.{FirstGood, NoneGood}
use Rattle.words.specs.BelowItsBound.{WordSized}
use Rattle.words.proofs.BelowItsBound.{first_below}
use Rattle.words.specs.OneOutcome as one
use Rattle.words.proofs.OneOutcome.{bounded_is, bounded_only}
use Rattle.signed.specs.Signed.{gap}
use Rattle.signed.proofs.GapLaws.{gap_least, gap_most}
use Rattle.words.specs.Outcomes.{worked_on, raised}
use Rattle.words.specs.OutcomeLaws.{raised_answered, raised_refused}
use Rattle.spans.specs.declared.counting.IntOutcome.{IntOutcome}
use Rattle.spans.specs.Spans.{span_by, uint_by, int_refused, int_gives, signed_by, counted_from, int_by}
use Rattle.spans.specs.SpanLaws.{span_none, span_whole, span_drawn, raw_word, raw_short, uint_order, uint_drawn, int_order, int_drawn}

-- ---- from 0 up to `last`: one number takes no word, and the others are the first good word's, below last + 1

-- which outcomes it may have
pub data Spanned (s : Words) (last budget : ℕ) : Outcome → Type 0 where
  single : last ≡ 0 → Spanned s last budget (gives 0 0)
  answers : (k : ℕ) → 0 < last → FirstGood s (last + 1) budget k → Spanned s last budget (gives (quotient (last + 1) (s k)) (k + 1))
  out_of_budget_lem : 0 < last → NoneGood s (last + 1) budget → Spanned s last budget (refused out_of_budget)

pub spanned_only : {s : Words} {last budget : ℕ} {o : Outcome} → Spanned s last budget o → span_by s last budget ≡ o
spanned_only {s} {last} {budget} (single z) = span_none s last budget z
spanned_only {s} {last} {budget} (answers k h f) =
    span_drawn s last budget h ∙ bounded_only s (last + 1) budget (one.answers k (omega arith) f)
spanned_only {s} {last} {budget} (out_of_budget_lem h f) =
    span_drawn s last budget h ∙ bounded_only s (last + 1) budget (one.out_of_budget_lem (omega arith) f)

pub spanned_is : (s : Words) (last budget : ℕ) → Spanned s last budget (span_by s last budget)
spanned_is s zero budget = rw (span_none s 0 budget refl) (single refl)
spanned_is s (suc n) budget = rw (span_drawn s (suc n) budget (omega arith)) (go (bounded_is s (suc n + 1) budget))
  where
    go : {o : Outcome} → one.Bounded s (suc n + 1) budget o → Spanned s (suc n) budget o
    go (one.zero_range_lem z) = absurd (omega arith)
    go (one.answers k h f) = answers k (omega arith) f
    go (one.out_of_budget_lem h f) = out_of_budget_lem (omega arith) f

spanned_most : {s : Words} {last budget : ℕ} {o : Outcome} → WordSized s → Spanned s last budget o → o.value ≤ last
spanned_most sized (single z) = omega arith
spanned_most sized (answers k h f) = omega (arith, first_below sized f)
spanned_most sized (out_of_budget_lem h f) = omega arith

-- "Over the full span of 2^32 values they take one raw word": the first, whatever it is, and budget 0 is refused with 8
pub whole_answered : (s : Words) (budget : ℕ) → 0 < budget → span_by s (2 ^ 32 - 1) budget ≡ gives (s 0) 1
whole_answered s budget h = span_whole s (2 ^ 32 - 1) budget refl ∙ raw_word s budget h

pub whole_refused : (s : Words) → span_by s (2 ^ 32 - 1) 0 ≡ refused out_of_budget
whole_refused s = span_whole s (2 ^ 32 - 1) 0 refl ∙ raw_short s 0 refl

-- when the draw within a span is refused
pub span_out_of_budget_exactly_if : (s : Words) (last budget : ℕ)
    → ((span_by s last budget).refusal ≡ out_of_budget) ↔ ((0 < last) × NoneGood s (last + 1) budget)
span_out_of_budget_exactly_if s last budget =
    (only_if (spanned_is s last budget), λ h. ap (λ (o : Outcome). o.refusal) (spanned_only (out_of_budget_lem h.0 h.1)))
  where
    only_if : {o : Outcome} → Spanned s last budget o → o.refusal ≡ out_of_budget → (0 < last) × NoneGood s (last + 1) budget
    only_if (single z) e = absurd (omega arith)
    only_if (answers k h f) e = absurd (omega arith)
    only_if (out_of_budget_lem h f) e = (h, f)

-- ---- `uint`

-- which outcomes it may have: refused with 2, or a draw within the span with min added, or refused with 8
pub data Uinted (s : Words) (min max budget : ℕ) : Outcome → Type 0 where
  wrong_order : max < min → Uinted s min max budget (refused order)
  drawn : {v n : ℕ} → min ≤ max → Spanned s (max - min) budget (gives v n) → Uinted s min max budget (gives (min + v) n)
  short : min ≤ max → Spanned s (max - min) budget (refused out_of_budget) → Uinted s min max budget (refused out_of_budget)

module _ (s : Words) (min max budget : ℕ) where
  pub uinted_only : {o : Outcome} → Uinted s min max budget o → uint_by s min max budget ≡ o
  uinted_only (wrong_order h) = uint_order s min max budget h
  uinted_only (drawn {v} {n} h d) =
      uint_drawn s min max budget h ∙ ap (raised min) (spanned_only d) ∙ raised_answered min (gives v n) refl
  uinted_only (short h d) =
      uint_drawn s min max budget h ∙ ap (raised min) (spanned_only d) ∙ raised_refused min (refused out_of_budget) (λ e. omega arith)

  pub uinted_is : Uinted s min max budget (uint_by s min max budget)
  uinted_is =
      elim (dec_le min max) [
        | yes h ↦ ordered h (spanned_is s (max - min) budget)
        | no h ↦ let w : Uinted s min max budget (refused order) = wrong_order (lt_of_not-le h) in rw (uinted_only w) w
      ]
    where
      outcome : {o : Outcome} → Uinted s min max budget o → Uinted s min max budget (uint_by s min max budget)
      outcome u = rw (uinted_only u) u

      ordered : {o : Outcome} → min ≤ max → Spanned s (max - min) budget o → Uinted s min max budget (uint_by s min max budget)
      ordered h (single z) = outcome (drawn h (single z))
      ordered h (answers k p f) = outcome (drawn h (answers k p f))
      ordered h (out_of_budget_lem p f) = outcome (short h (out_of_budget_lem p f))

  pub uint_order_exactly_if : ((uint_by s min max budget).refusal ≡ order) ↔ (max < min)
  uint_order_exactly_if = (only_if uinted_is, λ h. ap (λ (o : Outcome). o.refusal) (uint_order s min max budget h))
    where
      only_if : {o : Outcome} → Uinted s min max budget o → o.refusal ≡ order → max < min
      only_if (wrong_order h) e = h
      only_if (drawn h d) e = absurd (omega arith)
      only_if (short h d) e = absurd (omega arith)

  pub uint_out_of_budget_exactly_if :
      ((uint_by s min max budget).refusal ≡ out_of_budget) ↔ ((min < max) × NoneGood s (max - min + 1) budget)
  uint_out_of_budget_exactly_if =
      (only_if uinted_is, λ h. ap (λ (o : Outcome). o.refusal) (uinted_only (none_in_budget h.0 h.1)))
    where
      none_in_budget : min < max → NoneGood s (max - min + 1) budget → Uinted s min max budget (refused out_of_budget)
      none_in_budget l f = short (omega arith) (out_of_budget_lem (omega arith) f)

      only_if : {o : Outcome} → Uinted s min max budget o → o.refusal ≡ out_of_budget → (min < max) × NoneGood s (max - min + 1) budget
      only_if (wrong_order h) e = absurd (omega arith)
      only_if (drawn h d) e = absurd (omega arith)
      only_if (short h (out_of_budget_lem p f)) e = (omega arith, f)

  pub uint_between : WordSized s → (uint_by s min max budget).refusal ≡ answered
      → (min ≤ (uint_by s min max budget).value) × ((uint_by s min max budget).value ≤ max)
  uint_between sized = go uinted_is
    where
      go : {o : Outcome} → Uinted s min max budget o → o.refusal ≡ answered → (min ≤ o.value) × (o.value ≤ max)
      go (wrong_order h) e = absurd (omega arith)
      go (drawn h d) e = (omega arith, omega (arith, spanned_most sized d))
      go (short h d) e = absurd (omega arith)

-- ---- `int` and `range`

-- which outcomes they may have: refused with 2, or a draw within the span counted from min, or refused with 8
pub data Inted (s : Words) (min max : ℤ) (budget : ℕ) : IntOutcome → Type 0 where
  wrong_order : lt_z max min ≡ true → Inted s min max budget (int_refused order)
  drawn : {v n : ℕ} → lt_z max min ≡ false → Spanned s (gap min max) budget (gives v n)
      → Inted s min max budget (int_gives (min +ℤ pos v) n)
  short : lt_z max min ≡ false → Spanned s (gap min max) budget (refused out_of_budget) → Inted s min max budget (int_refused out_of_budget)

module _ (s : Words) (min max : ℤ) (budget : ℕ) where
  pub inted_only : {o : IntOutcome} → Inted s min max budget o → int_by s min max budget ≡ o
  unfolding counted_from signed_by worked_on
  inted_only (wrong_order h) = int_order s min max budget h
  inted_only (drawn h d) = int_drawn s min max budget h ∙ ap (counted_from min) (spanned_only d)
  inted_only (short h d) = int_drawn s min max budget h ∙ ap (counted_from min) (spanned_only d)

  pub inted_is : Inted s min max budget (int_by s min max budget)
  inted_is = go (lt_z max min) refl
    where
      outcome : {o : IntOutcome} → Inted s min max budget o → Inted s min max budget (int_by s min max budget)
      outcome u = rw (inted_only u) u

      ordered : {o : Outcome} → lt_z max min ≡ false → Spanned s (gap min max) budget o → Inted s min max budget (int_by s min max budget)
      ordered h (single z) = outcome (drawn h (single z))
      ordered h (answers k p f) = outcome (drawn h (answers k p f))
      ordered h (out_of_budget_lem p f) = outcome (short h (out_of_budget_lem p f))

      go : (b : Bool) → lt_z max min ≡ b → Inted s min max budget (int_by s min max budget)
      go true h = outcome (wrong_order h)
      go false h = ordered h (spanned_is s (gap min max) budget)

  pub int_order_exactly_if : ((int_by s min max budget).refusal ≡ order) ↔ (lt_z max min ≡ true)
  int_order_exactly_if = (only_if inted_is, λ h. ap (λ (o : IntOutcome). o.refusal) (inted_only (wrong_order h)))
    where
      only_if : {o : IntOutcome} → Inted s min max budget o → o.refusal ≡ order → lt_z max min ≡ true
      only_if (wrong_order h) e = h
      only_if (drawn h d) e = absurd (omega arith)
      only_if (short h d) e = absurd (omega arith)

  pub int_out_of_budget_exactly_if : ((int_by s min max budget).refusal ≡ out_of_budget)
      ↔ ((lt_z max min ≡ false) × (0 < gap min max) × NoneGood s (gap min max + 1) budget)
  int_out_of_budget_exactly_if =
      (only_if inted_is, λ h. ap (λ (o : IntOutcome). o.refusal) (inted_only (short h.0 (out_of_budget_lem h.1 h.2))))
    where
      only_if : {o : IntOutcome} → Inted s min max budget o → o.refusal ≡ out_of_budget
          → (lt_z max min ≡ false) × (0 < gap min max) × NoneGood s (gap min max + 1) budget
      only_if (wrong_order h) e = absurd (omega arith)
      only_if (drawn h d) e = absurd (omega arith)
      only_if (short h (out_of_budget_lem p f)) e = (h, p, f)

  pub int_between : WordSized s → (int_by s min max budget).refusal ≡ answered
      → (min ≤ℤ (int_by s min max budget).value) × ((int_by s min max budget).value ≤ℤ max)
  int_between sized = go inted_is
    where
      go : {o : IntOutcome} → Inted s min max budget o → o.refusal ≡ answered → (min ≤ℤ o.value) × (o.value ≤ℤ max)
      go (wrong_order h) e = absurd (omega arith)
      go (drawn {v} h d) e = (gap_least min v, gap_most min max v h (spanned_most sized d))
      go (short h d) e = absurd (omega arith)
