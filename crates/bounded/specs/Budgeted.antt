-- What holds of every budgeted call, said once: of its outcome as a function of the words and the budget, and of its answers. A call is a
-- draw, or another call whose value is worked on, or one that refuses its arguments first.
use Rattle.std.specs.Prelude.{◌≡◌, refl, Bool, true, false, cond, List, ℕ, ◌+◌, ◌-◌, ◌≤◌, leb}
use Rattle.std.proofs.Common.{◌∙◌, ap, arith}
use Rattle.words.specs.Refusal.{answered, order}
use Rattle.words.specs.declared.outcome.Outcome.{Outcome}
use Rattle.words.specs.Draw.{Words, Drawn, all, short, draws, refused, bounded_by, outcome_of}
use Rattle.words.specs.Outcomes.{mapped, raised}
use Rattle.words.specs.OutcomeLaws.{worked_refused, refused_whole}
use Rattle.words.specs.OneOutcome.{Bounded, zero_range_lem, answers, out_of_budget_lem}
use Rattle.words.proofs.OneOutcome.{bounded_is}
use Rattle.words.proofs.LargerBudget.{bounded_larger, call_larger}
use Rattle.words.proofs.UsedWithinBudget.{bounded_within, draws_within}
use Rattle.random.specs.declared.backend.Random.{Random}
use Rattle.random.specs.Generator.{words_of}
use Rattle.bounded.specs.Answers.{answer_from}
use Rattle.bounded.specs.Ranges.{range_by, char_by}

-- The call is not answered.
abbrev pub Refused : Outcome → Type 0
Refused o = o.refusal ≡ answered → ⊥

-- What every call within a budget obeys.
pub record Budgeted (call : Words → ℕ → Outcome) : Type 0 where
  -- "a larger budget never changes an answer given" (the order, demand 3)
  pub larger : (s : Words) (b b' : ℕ) → b ≤ b' → (call s b).refusal ≡ answered → call s b' ≡ call s b
  -- "Every refusal gives .. 0 words used" (document 01): so it leaves its generator where it was
  pub unused : (s : Words) (b : ℕ) → Refused (call s b) → (call s b).used ≡ 0
  -- ".. value 0"
  pub valueless : (s : Words) (b : ℕ) → Refused (call s b) → (call s b).value ≡ 0
  -- "A budget .. is for the whole call" (document 01)
  pub within : (s : Words) (b : ℕ) → (call s b).used ≤ b

-- so a refused call tells its number alone
pub bare : {call : Words → ℕ → Outcome} → Budgeted call → (s : Words) (b : ℕ) → Refused (call s b) → call s b ≡ refused (call s b).refusal
bare {call} d s b h = refused_whole (call s b) (d.unused s b h) (d.valueless s b h)

-- ---- which calls are budgeted

pub bounded_budgeted : (r : ℕ) → Budgeted (λ s b. bounded_by s r b)
bounded_budgeted r = record {
  larger = λ s b b'. bounded_larger s r b b';
  unused = λ s b. unused (bounded_is s r b);
  valueless = λ s b. valueless (bounded_is s r b);
  within = λ s b. bounded_within s r b;
}
  where
    unused : {s : Words} {b : ℕ} {o : Outcome} → Bounded s r b o → Refused o → o.used ≡ 0
    unused (zero_range_lem z) n = refl
    unused (answers k h f) n = absurd (n refl)
    unused (out_of_budget_lem h f) n = refl

    valueless : {s : Words} {b : ℕ} {o : Outcome} → Bounded s r b o → Refused o → o.value ≡ 0
    valueless (zero_range_lem z) n = refl
    valueless (answers k h f) n = absurd (n refl)
    valueless (out_of_budget_lem h f) n = refl

-- one whose value is worked on: refusal and words used stay as they are,
pub mapped_budgeted : {call : Words → ℕ → Outcome} (f : ℕ → ℕ) → Budgeted call → Budgeted (λ s b. mapped f (call s b))
unfolding mapped
mapped_budgeted {call} f d = record {
  larger = λ s b b' h a. ap (mapped f) (d.larger s b b' h a);
  unused = d.unused;
  valueless = λ s b h. worked_refused f (call s b).value (call s b) h ∙ d.valueless s b h;
  within = d.within;
}

-- so a number may be added,
pub raised_budgeted : {call : Words → ℕ → Outcome} (n : ℕ) → Budgeted call → Budgeted (λ s b. raised n (call s b))
unfolding raised
raised_budgeted n d = mapped_budgeted (λ v. n + v) d

-- One that works its value out of draws below given bounds
pub draws_budgeted : (value : List ℕ → ℕ) (bounds : List ℕ) → Budgeted (λ s b. outcome_of value (draws s bounds b))
draws_budgeted value bounds = record {
  larger = λ s b b' h a. ap (outcome_of value) (call_larger value s bounds b b' h a);
  unused = λ s b. unused (draws s bounds b);
  valueless = λ s b. valueless (draws s bounds b);
  within = λ s b. within s b (draws s bounds b) refl;
}
  where
    unused : (d : Drawn) → Refused (outcome_of value d) → (outcome_of value d).used ≡ 0
    unused (all vs n) h = absurd (h refl)
    unused (short m) h = refl

    valueless : (d : Drawn) → Refused (outcome_of value d) → (outcome_of value d).value ≡ 0
    valueless (all vs n) h = absurd (h refl)
    valueless (short m) h = refl

    within : (s : Words) (b : ℕ) (d : Drawn) → draws s bounds b ≡ d → (outcome_of value d).used ≤ b
    within s b (all vs n) e = draws_within s bounds b e
    within s b (short m) e = omega arith

-- And arguments may be refused, whatever the budget.
pub checked_budgeted : {call : Words → ℕ → Outcome} (wrong : Bool) (number : ℕ) → (number ≡ answered → ⊥) → Budgeted call
    → Budgeted (λ s b. cond wrong (refused number) (call s b))
checked_budgeted true number h d = record {
  larger = λ s b b' l a. refl;
  unused = λ s b n. refl;
  valueless = λ s b n. refl;
  within = λ s b. omega arith;
}
checked_budgeted false number h d = d

pub range_budgeted : (min max : ℕ) → Budgeted (λ s b. range_by s min max b)
unfolding range_by
range_budgeted min max = checked_budgeted (leb max min) order (λ e. omega arith) (raised_budgeted min (bounded_budgeted (max - min)))

pub char_budgeted : Budgeted char_by
unfolding char_by
char_budgeted = raised_budgeted 97 (bounded_budgeted 26)

-- ---- and so of the answers: value, words used and next generator stay as the budget grows

pub answer_larger : {call : Words → ℕ → Outcome} → Budgeted call → (b b' : ℕ) → b ≤ b' → (g : Random)
    → (call (words_of g) b).refusal ≡ answered → answer_from g (call (words_of g) b') ≡ answer_from g (call (words_of g) b)
answer_larger d b b' h g a = ap (answer_from g) (d.larger (words_of g) b b' h a)
