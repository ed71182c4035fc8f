-- `uint`, `int` and `range` are budgeted calls: "a larger budget never changes an answer given" (the order, demand 3), a refusal tells its
-- number alone, and the words used are within the budget.
use Rattle.std.specs.Prelude.{◌≡◌, refl, cond, ℕ, zero, suc, ◌+◌, ◌-◌, ◌≤◌, ltb, ℤ, ◌+ℤ◌}
use Rattle.std.proofs.Common.{sym, subst, arith}
use Rattle.std.proofs.Math.Path.{ap, fun_ext}
use Rattle.std.proofs.Math.IntN.{pos}
use Rattle.std.specs.Int.Signed.{lt_z}
use Rattle.words.specs.Refusal.{answered, order}
use Rattle.words.specs.declared.outcome.Outcome.{Outcome}
use Rattle.words.specs.Draw.{Words, refused}
use Rattle.words.specs.OutcomeLaws.{worked_refused}
use Rattle.signed.specs.Signed.{gap}
use Rattle.random.specs.declared.backend.Random.{Random}
use Rattle.random.specs.Generator.{words_of}
use Rattle.bounded.specs.Budgeted.{Budgeted, bounded_budgeted, raised_budgeted, checked_budgeted}
use Rattle.spans.specs.Spans.{span_by, uint_by, signed_by, counted_from, int_by}
use Rattle.spans.specs.IntAnswers.{int_answer_from}
use Rattle.spans.specs.SpanLaws.{span_none, span_drawn}

budgeted_same : {call other : Words → ℕ → Outcome} → ((s : Words) (b : ℕ) → call s b ≡ other s b) → Budgeted other → Budgeted call
budgeted_same e d = subst (λ (c : Words → ℕ → Outcome). Budgeted c) (sym (fun_ext (λ s. fun_ext (λ b. e s b)))) d

pub span_budgeted : (last : ℕ) → Budgeted (λ s b. span_by s last b)
span_budgeted zero =
    budgeted_same (λ s b. span_none s 0 b refl)
    (record {
      larger = λ s b b' h a. refl;
      unused = λ s b n. refl;
      valueless = λ s b n. refl;
      within = λ s b. omega arith;
    })
span_budgeted (suc n) = budgeted_same (λ s b. span_drawn s (suc n) b (omega arith)) (bounded_budgeted (suc n + 1))

pub uint_budgeted : (min max : ℕ) → Budgeted (λ s b. uint_by s min max b)
unfolding uint_by
uint_budgeted min max = checked_budgeted (ltb max min) order (λ e. omega arith) (raised_budgeted min (span_budgeted (max - min)))

-- ---- `int` and `range`: such a call, whose value is counted from min

-- what `int` draws, counted from 0
abbrev pub span_of : ℤ → ℤ → Words → ℕ → Outcome
span_of min max s b = cond (lt_z max min) (refused order) (span_by s (gap min max) b)

pub span_of_budgeted : (min max : ℤ) → Budgeted (span_of min max)
span_of_budgeted min max = checked_budgeted (lt_z max min) order (λ e. omega arith) (span_budgeted (gap min max))

module _ (min max : ℤ) (s : Words) (b : ℕ) where
  pub int_larger : (b' : ℕ) → b ≤ b' → (int_by s min max b).refusal ≡ answered → int_by s min max b' ≡ int_by s min max b
  unfolding int_by counted_from signed_by
  int_larger b' h a = ap (counted_from min) ((span_of_budgeted min max).larger s b b' h a)

  -- "0 words used",
  pub int_unused : ((int_by s min max b).refusal ≡ answered → ⊥) → (int_by s min max b).used ≡ 0
  unfolding int_by counted_from signed_by
  int_unused n = (span_of_budgeted min max).unused s b n

  -- "value 0"
  pub int_valueless : ((int_by s min max b).refusal ≡ answered → ⊥) → (int_by s min max b).value ≡ pos 0
  unfolding int_by counted_from signed_by
  int_valueless n = worked_refused (λ v. min +ℤ pos v) (pos 0) (span_of min max s b) n

  pub int_within : (int_by s min max b).used ≤ b
  unfolding int_by counted_from signed_by
  int_within = (span_of_budgeted min max).within s b

-- and so of the answers
module _ (min max : ℤ) (b b' : ℕ) (h : b ≤ b') where
  pub int_answer_larger : (g : Random) → (int_by (words_of g) min max b).refusal ≡ answered
      → int_answer_from g (int_by (words_of g) min max b') ≡ int_answer_from g (int_by (words_of g) min max b)
  int_answer_larger g a = ap (int_answer_from g) (int_larger min max (words_of g) b b' h a)
