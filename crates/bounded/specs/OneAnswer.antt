-- What every answer's promise fixes, whatever the outcome: the next generator is the old one after the words used, and two answers that
-- meet one promise are the same, over a lent table the tables too.
use Rattle.std.specs.Prelude.{◌≡◌, List, ℕ, Result}
use Rattle.std.proofs.Common.{ap, ap₂}
use Rattle.words.specs.declared.outcome.Outcome.{Outcome}
use Rattle.random.specs.declared.backend.Random.{Random}
use Rattle.random.specs.declared.engine.Engine.{Engine}
use Rattle.random.specs.Generator.{later}
use Rattle.random.specs.GeneratorLaws.{later_none}
use Rattle.random.specs.Lent.{joined_with, engine_in, table_in}
use Rattle.random.specs.LentLaws.{joined_apart}
use Rattle.bounded.specs.declared.answers.Answer.{Answer}
use Rattle.words.specs.declared.refusal.Refusal.{Refusal}
use Rattle.words.specs.declared.reply.Given.{Given}
use Rattle.words.specs.declared.reply.Reply.{Reply}
use Rattle.words.specs.NumbersLaws.{numbers_apart}
use Rattle.bounded.specs.Answers.{answer_from, joined_answer, in_numbers}

-- ---- by value

module _ {a : Answer Random} (g : Random) (o : Outcome) (p : a ≡ answer_from g o) where
  -- "The new generator is the old one after that many words" (document 01, "Draws").
  pub next_after_used : a.next ≡ later a.used g
  unfolding answer_from
  next_after_used = rw p

  -- "a refusal leaves generator .. unchanged" (the order, demand 1), since it has used no word
  pub refused_unmoved : o.used ≡ 0 → a.next ≡ g
  unfolding answer_from
  refused_unmoved none = rw (p, none, later_none g)

-- ---- over a lent table

pub answer_apart : {a b : Answer Engine} {m m' : List ℕ} → joined_answer a m ≡ joined_answer b m' → (a ≡ b) × (m ≡ m')
answer_apart h = (
  ap (λ (x : Answer Random). record { refusal = x.refusal; value = x.value; used = x.used; next = engine_in x.next }) h,
  ap (λ (x : Answer Random). table_in x.next) h,
)

-- the engine and the table are as they came
pub refused_unmoved_in : {a : Answer Engine} {m' : List ℕ} (e : Engine) (m : List ℕ) (o : Outcome)
    → joined_answer a m' ≡ answer_from (joined_with e m) o → o.used ≡ 0 → (a.next ≡ e) × (m' ≡ m)
refused_unmoved_in e m o p none = joined_apart (refused_unmoved (joined_with e m) o p none)

-- ---- the code's answers: two that say the same in document 01's numbers are the same

pub same_reply : {G : Type 0} (a b : Reply ℕ G) → in_numbers a ≡ in_numbers b → a ≡ b
same_reply {G} a b h =
    ap₂ (λ (g : G) (t : Result (Given ℕ) Refusal). record { next = g; told = t }) (ap (λ (x : Answer G). x.next) h)
    (numbers_apart a.told b.told (ap (λ (x : Answer G). record { refusal = x.refusal; value = x.value; used = x.used }) h))
