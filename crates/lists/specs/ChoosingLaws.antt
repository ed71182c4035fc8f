-- What the code of `choose` builds is the answer of its definition.
use Rattle.std.specs.Prelude.{◌≡◌, List, ℕ, ◌≤◌, length}
use Rattle.std.proofs.Math.Path.{refl}
use Rattle.std.proofs.Common.{sym, ◌∙◌, ap, subst}
use Rattle.std.proofs.Math.ListN.{get_or, get_or-eq_default}
use Rattle.words.specs.declared.outcome.Outcome.{Outcome}
use Rattle.words.specs.Refusal.{answered}
use Rattle.words.specs.OutcomeLaws.{worked_answered, worked_refused}
use Rattle.random.specs.declared.backend.Random.{Random}
use Rattle.random.specs.declared.engine.Engine.{Engine}
use Rattle.words.specs.declared.reply.Reply.{Reply}
use Rattle.bounded.specs.Answers.{answer_from, joined_answer, in_numbers}
use Rattle.bounded.specs.AnswerLaws.{worked_answers}
use Rattle.random.specs.Lent.{joined_with}
use Rattle.lists.specs.declared.outcomes.Choice.{Choice}
use Rattle.lists.specs.Choosing.{entry_of, choice_with, choice_from, joined_choice}
use Rattle.lists.specs.Replies.{EntryIn, choice, choice_in_numbers}
use Rattle.lists.specs.declared.places.Entry.{Entry}
use Rattle.lists.specs.Promises.{PlaceWithin}

-- ---- the outcome read on the list

-- a drawn place, with this value beside it
abbrev pub with_value : Outcome → ℕ → Choice
with_value o v = record { refusal = o.refusal; place = o.value; value = v; used = o.used }

module _ (list : List ℕ) (o : Outcome) where
  pub entry_there : o.refusal ≡ answered → with_value o (get_or list o.value 0) ≡ entry_of list o
  unfolding entry_of
  entry_there h = rw (worked_answered (λ v. get_or list v 0) 0 o h)

  -- the list ends before the place
  pub entry_past : o.refusal ≡ answered → length list ≤ o.value → with_value o 0 ≡ entry_of list o
  entry_past h past = ap (with_value o) (sym (get_or-eq_default list 0 past)) ∙ entry_there h

  pub entry_refused : (o.refusal ≡ answered → ⊥) → with_value o 0 ≡ entry_of list o
  unfolding entry_of
  entry_refused h = rw (worked_refused (λ v. get_or list v 0) 0 o h)

  pub entry_used : (entry_of list o).used ≡ o.used
  unfolding entry_of
  entry_used = refl

-- ---- and so the answer

pub entry_answers : (a : Reply ℕ Engine) (b : Reply Entry Engine) {t : List ℕ} (list : List ℕ) (g : Random) (o : Outcome)
    → joined_answer (in_numbers a) t ≡ answer_from g o → EntryIn list a b
    → joined_choice (choice_in_numbers b) t ≡ choice_from g (entry_of list o)
unfolding choice_from
entry_answers a b {t} list g o h made =
    ap (λ (e : Engine). choice_with (choice b.told) (joined_with e t)) made.1
    ∙ worked_answers choice_with (λ (x : Choice). x.used) (entry_of list) g o h made.0 (entry_used list o)

-- a place that is one of the n stays so
pub entry_within : (a : Reply ℕ Engine) (b : Reply Entry Engine) (n : ℕ) (list : List ℕ) → EntryIn list a b
    → PlaceWithin n (in_numbers a).refusal (in_numbers a).value → PlaceWithin n (choice_in_numbers b).refusal (choice_in_numbers b).place
unfolding entry_of
entry_within a b n list made within = subst (λ (c : Choice). PlaceWithin n c.refusal c.place) (sym made.0) within
