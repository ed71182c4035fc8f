-- What the code of `int` builds is the answer of its outcome.
use Rattle.std.specs.Prelude.{◌≡◌, refl, List, ℕ, Err, ◌+◌, ◌<◌, ℤ, pos, ◌+ℤ◌}
use Rattle.std.proofs.Common.{◌∙◌, ap, arith, SFits}
use Rattle.std.specs.Int.{w32}
use Rattle.words.specs.declared.outcome.Outcome.{Outcome}
use Rattle.words.specs.Refusal.{answered, order}
use Rattle.words.specs.Draw.{refused}
use Rattle.words.specs.OutcomeLaws.{worked_answered, worked_refused, worked_same}
use Rattle.signed.specs.Signed.{wrapped_sum, gap}
use Rattle.signed.specs.SignedLaws.{sum_exact}
use Rattle.signed.proofs.GapLaws.{gap_fits}
use Rattle.random.specs.declared.backend.Random.{Random}
use Rattle.random.specs.declared.engine.Engine.{Engine}
use Rattle.random.specs.Lent.{joined_with}
use Rattle.random.specs.GeneratorLaws.{later_none}
use Rattle.words.specs.declared.refusal.Refusal.TheVariants as no
use Rattle.words.specs.declared.reply.Reply.{Reply}
use Rattle.words.specs.Numbers.{numbered}
use Rattle.bounded.specs.Answers.{answer_from, joined_answer, Below, in_numbers}
use Rattle.bounded.specs.AnswerLaws.{worked_answers}
use Rattle.spans.specs.declared.counting.IntOutcome.{IntOutcome}
use Rattle.spans.specs.IntAnswers.{IntAnswer}
use Rattle.spans.specs.Spans.{signed_by, counted_from, counted_modulo}
use Rattle.spans.specs.IntAnswers.{int_answer_with, int_answer_from, int_answer_in, int_in_numbers, joined_int}

-- ---- outcomes with a signed value

module _ (f : ℕ → ℤ) (o : Outcome) where
  pub signed_answered : o.refusal ≡ answered → signed_by f o ≡ record { refusal = o.refusal; value = f o.value; used = o.used }
  unfolding signed_by
  signed_answered h = rw (worked_answered f (pos 0) o h)

  pub signed_refused : (o.refusal ≡ answered → ⊥) → signed_by f o ≡ record { refusal = o.refusal; value = pos 0; used = o.used }
  unfolding signed_by
  signed_refused h = rw (worked_refused f (pos 0) o h)

pub counted_used : (min : ℤ) (o : Outcome) → (counted_from min o).used ≡ o.used
unfolding counted_from signed_by
counted_used min o = refl

-- as the code counts, where the number is at most the gap up to max
pub counted_exact : {min max : ℤ} (o : Outcome) → SFits w32 min → SFits w32 max → (o.refusal ≡ answered → o.value < gap min max + 1)
    → counted_modulo min o ≡ counted_from min o
unfolding counted_from counted_modulo signed_by
counted_exact {min} {max} o f f' small = rw (worked_same (λ v. wrapped_sum 32 min v) (λ v. min +ℤ pos v) (pos 0) o exact)
  where
    exact : o.refusal ≡ answered → wrapped_sum 32 min o.value ≡ min +ℤ pos o.value
    exact a = sum_exact w32 min o.value (gap_fits f f' (omega (arith, small a)))

-- ---- so the answer counted from min, as the code counts it, is the answer of the outcome counted from min,

pub counted_answers : (a : Reply ℕ Engine) (b : Reply ℤ Engine) {t : List ℕ} {min max : ℤ}
    (g : Random) (o : Outcome) → SFits w32 min → SFits w32 max → joined_answer (in_numbers a) t ≡ answer_from g o
    → Below (gap min max + 1) (in_numbers a) → int_in_numbers b ≡ int_answer_in (counted_modulo min (numbered a.told)) a.next
    → joined_int (int_in_numbers b) t ≡ int_answer_from g (counted_from min o)
unfolding int_answer_from
counted_answers a b {t} {min} g o f f' h small built =
    let exact = counted_exact (numbered a.told) f f' small in
    ap (λ (x : IntAnswer Engine). joined_int x t) built
    ∙ worked_answers int_answer_with (λ (x : IntOutcome). x.used) (counted_from min) g o h exact (counted_used min o)

-- and so is a refusal of the arguments.
pub counted_refused : {b : Reply ℤ Engine} (min : ℤ) (e : Engine) (t : List ℕ) → b ≡ record { next = e; told = Err no.Order }
    → joined_int (int_in_numbers b) t ≡ int_answer_from (joined_with e t) (counted_from min (refused order))
unfolding int_answer_from counted_from
counted_refused min e t built =
    rw (built, signed_refused (λ v. min +ℤ pos v) (refused order) (λ z. absurd (omega (arith, z))), later_none (joined_with e t))
