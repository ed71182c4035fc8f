-- What the promise of `int` and `range` fixes, whatever the outcome, as of every answer: the next generator is the old one after the words
-- used, and two answers that meet one promise are the same, over a lent table the tables too.
use Rattle.std.specs.Prelude.{◌≡◌, List, ℕ, ℤ, Result, Ok, Err}
use Rattle.std.proofs.Common.{ap, ap₂, arith}
use Rattle.random.specs.declared.backend.Random.{Random}
use Rattle.random.specs.declared.engine.Engine.{Engine}
use Rattle.random.specs.Generator.{later}
use Rattle.random.specs.GeneratorLaws.{later_none}
use Rattle.random.specs.Lent.{joined_with, engine_in, table_in}
use Rattle.random.specs.LentLaws.{joined_apart}
use Rattle.spans.specs.IntAnswers.{IntAnswer}
use Rattle.spans.specs.declared.counting.IntOutcome.{IntOutcome}
use Rattle.spans.specs.IntAnswers.{int_answer_from, int_numbered, int_in_numbers, joined_int}
use Rattle.words.specs.declared.refusal.Refusal.{Refusal}
use Rattle.words.specs.declared.reply.Given.{Given}
use Rattle.words.specs.declared.reply.Reply.{Reply}
use Rattle.words.specs.NumbersLaws.{number_positive, one_number}

-- ---- by value

module _ {a : IntAnswer Random} (g : Random) (o : IntOutcome) (p : a ≡ int_answer_from g o) where
  pub int_next_after_used : a.next ≡ later a.used g
  unfolding int_answer_from
  int_next_after_used = rw p

  -- a refusal has used no word
  pub int_refused_unmoved : o.used ≡ 0 → a.next ≡ g
  unfolding int_answer_from
  int_refused_unmoved none = rw (p, none, later_none g)

-- ---- over a lent table

pub int_answer_apart : {a b : IntAnswer Engine} {m m' : List ℕ} → joined_int a m ≡ joined_int b m' → (a ≡ b) × (m ≡ m')
int_answer_apart h = (
  ap (λ (x : IntAnswer Random). record { refusal = x.refusal; value = x.value; used = x.used; next = engine_in x.next }) h,
  ap (λ (x : IntAnswer Random). table_in x.next) h,
)

pub int_refused_unmoved_in : {a : IntAnswer Engine} {m' : List ℕ} (e : Engine) (m : List ℕ) (o : IntOutcome)
    → joined_int a m' ≡ int_answer_from (joined_with e m) o → o.used ≡ 0 → (a.next ≡ e) × (m' ≡ m)
int_refused_unmoved_in e m o p none = joined_apart (int_refused_unmoved (joined_with e m) o p none)

-- ---- the code's answers: two that say the same in document 01's numbers are the same

int_numbers_apart : (a b : Result (Given ℤ) Refusal) → int_numbered a ≡ int_numbered b → a ≡ b
int_numbers_apart (Ok g) (Ok h) e = ap (λ (o : IntOutcome). Ok (record { value = o.value; used = o.used })) e
int_numbers_apart (Err r) (Err q) e = ap Err (one_number (ap (λ (o : IntOutcome). o.refusal) e))
int_numbers_apart (Ok g) (Err q) e = absurd (omega (arith, number_positive q, ap (λ (o : IntOutcome). o.refusal) e))
int_numbers_apart (Err r) (Ok h) e = absurd (omega (arith, number_positive r, ap (λ (o : IntOutcome). o.refusal) e))

pub int_same_reply : {G : Type 0} (a b : Reply ℤ G) → int_in_numbers a ≡ int_in_numbers b → a ≡ b
int_same_reply {G} a b h =
    ap₂ (λ (g : G) (t : Result (Given ℤ) Refusal). record { next = g; told = t }) (ap (λ (x : IntAnswer G). x.next) h)
    (int_numbers_apart a.told b.told (ap (λ (x : IntAnswer G). record { refusal = x.refusal; value = x.value; used = x.used }) h))
