-- "A budget .. is for the whole call" (document 01): the words used are within it, of one draw and of draws below a list.
use Rattle.std.specs.Prelude.{◌≡◌, List, ℕ, ◌≤◌}
use Rattle.std.proofs.Common.{arith}
use Rattle.words.specs.declared.outcome.Outcome.{Outcome}
use Rattle.words.specs.Draw.{Words, bounded_by, all, draws}
use Rattle.words.specs.OneOutcome.{Bounded, zero_range_lem, answers, out_of_budget_lem}
use Rattle.words.proofs.OneOutcome.{bounded_is}
use Rattle.words.specs.OneOutcomeOfDraws.{Drawing, done, settled}
use Rattle.words.proofs.OneOutcomeOfDraws.{drawing_is}

pub bounded_within : (s : Words) (r budget : ℕ) → (bounded_by s r budget).used ≤ budget
bounded_within s r budget = go (bounded_is s r budget)
  where
    go : {o : Outcome} → Bounded s r budget o → o.used ≤ budget
    go (zero_range_lem z) = omega arith
    go (answers k h f) = omega (arith, f.among)
    go (out_of_budget_lem h f) = omega arith

drawing_within : {s : Words} {rs vs : List ℕ} {budget n : ℕ} → Drawing s rs budget (all vs n) → n ≤ budget
drawing_within done = omega arith
drawing_within (settled f rest) = omega (arith, f.among, drawing_within rest)

pub draws_within : (s : Words) (rs : List ℕ) (budget : ℕ) {vs : List ℕ} {n : ℕ} → draws s rs budget ≡ all vs n → n ≤ budget
draws_within s rs budget e = drawing_within (rw e at (drawing_is s rs budget))
