-- What the code of `rand_slice` and `window_of` builds is the answer of their definitions.
use Rattle.std.specs.Prelude.{◌≡◌, refl, List, [], ℕ, ◌+◌, ◌-◌, ◌*◌, ◌≤◌, ◌<◌, length, take, drop}
use Rattle.std.proofs.Common.{◌∙◌, ap, le-leb}
use native.Mathlib.Omega.{arith}
use Rattle.std.proofs.lemmas.Bool.{lt-leb}
use Rattle.words.specs.declared.outcome.Outcome.{Outcome}
use Rattle.random.specs.declared.backend.Random.{Random}
use Rattle.random.specs.declared.engine.Engine.{Engine}
use Rattle.words.specs.declared.reply.Reply.{Reply}
use Rattle.bounded.specs.Answers.{answer_from, joined_answer, in_numbers}
use Rattle.lists.specs.Replies.{start_in_numbers}
use Rattle.bounded.specs.AnswerLaws.{worked_answers}
use Rattle.lists.specs.declared.outcomes.SliceOutcome.{SliceOutcome}
use Rattle.lists.specs.Slicing.{start_of, start_with, start_from, joined_start, part_of, part_place}
use Rattle.lists.specs.Promises.{PartFits}

-- ---- the start

pub start_used : (o : Outcome) → (start_of o).used ≡ o.used
unfolding start_of
start_used o = refl

pub start_answers : (a b : Reply ℕ Engine) {t : List ℕ} (g : Random) (o : Outcome)
    → joined_answer (in_numbers a) t ≡ answer_from g o → b ≡ a → joined_start (start_in_numbers b) t ≡ start_from g (start_of o)
unfolding start_from
start_answers a b {t} g o h same =
    ap (λ (r : Reply ℕ Engine). joined_start (start_in_numbers r) t) same
    ∙ worked_answers start_with (λ (x : SliceOutcome). x.used) start_of g o h refl (start_used o)

-- a start that leaves room stays so
pub start_fits : (a b : Reply ℕ Engine) (n window : ℕ) → b ≡ a
    → PartFits n window (in_numbers a).refusal (in_numbers a).value
    → PartFits n window (start_in_numbers b).refusal (start_in_numbers b).start
unfolding start_of
start_fits a b n window same fits = rw same fits

-- ---- the part

module _ (list : List ℕ) (start window : ℕ) where
  pub part_past : length list < start + window → part_of list start window ≡ []
  unfolding part_of
  part_past h = rw (lt-leb (start + window) (length list) h)

  pub part_within : start + window ≤ length list → part_of list start window ≡ take window (drop start list)
  unfolding part_of
  part_within h = rw (le-leb (start + window) (length list) h)

  -- as the code cuts it out: from its start to its end
  pub cut_within : start + window ≤ length list → take (start + window - start) (drop start list) ≡ part_of list start window
  cut_within h =
      let e : start + window - start ≡ window = omega arith in
      rw (part_within h, e)

-- ---- and where it lies

module _ (begins : ℕ × ℕ) (n start window : ℕ) where
  pub place_within : start + window ≤ n → (begins.0, start * 4 + begins.1) ≡ part_place begins n start window
  unfolding part_place
  place_within h = rw (le-leb (start + window) n h)

  pub place_past : n < start + window → (begins.0, 0 * 4 + begins.1) ≡ part_place begins n start window
  unfolding part_place
  place_past h =
      let none : 0 * 4 + begins.1 ≡ begins.1 = omega arith in
      rw (lt-leb (start + window) n h, none)
