-- Drawing depends on the words within the budget alone: sequences that agree there have the same outcome, of one draw and of draws below a
-- list. So a recorded list of words stands for whatever gave them.
use Rattle.std.specs.Prelude.{◌≡◌, List, ℕ, ◌+◌, ◌<◌}
use Rattle.std.proofs.Common.{sym, arith}
use Rattle.words.specs.declared.outcome.Outcome.{Outcome}
use Rattle.words.specs.Draw.{Words, bounded_by, Drawn, draws}
use Rattle.words.specs.GoodWord.{FirstGood, NoneGood}
use Rattle.words.specs.OneOutcome.{Bounded, zero_range_lem, answers, out_of_budget_lem}
use Rattle.words.proofs.OneOutcome.{bounded_is, bounded_only}
use Rattle.words.specs.OneOutcomeOfDraws.{Drawing, done, settled, later_short, now_short}
use Rattle.words.proofs.OneOutcomeOfDraws.{drawing_is, drawing_only}

-- Two sequences have the same first n words.
abbrev pub Agree : Words → Words → ℕ → Type 0
Agree s s' n = (k : ℕ) → k < n → s k ≡ s' k

first_agrees : {s s' : Words} {r budget k : ℕ} → Agree s s' budget → FirstGood s r budget k → FirstGood s' r budget k
first_agrees {k = k} a f =
    let h = f.among in
    record {
      among = h;
      passes = rw (a k h) at f.passes;
      none_before = λ j u. rw (a j (omega arith)) at (f.none_before j u);
    }

none_agrees : {s s' : Words} (r : ℕ) {budget : ℕ} → Agree s s' budget → NoneGood s r budget → NoneGood s' r budget
none_agrees r a f = λ j h. rw (a j h) at (f j h)

pub bounded_agrees : (s s' : Words) (r budget : ℕ) → Agree s s' budget → bounded_by s r budget ≡ bounded_by s' r budget
bounded_agrees s s' r budget a = sym (bounded_only s' r budget (carried (bounded_is s r budget)))
  where
    carried : {o : Outcome} → Bounded s r budget o → Bounded s' r budget o
    carried (zero_range_lem z) = zero_range_lem z
    carried (answers k h f) = rw (a k f.among) (answers k h (first_agrees a f))
    carried (out_of_budget_lem h f) = out_of_budget_lem h (none_agrees r a f)

drawing_agrees : {s s' : Words} {rs : List ℕ} {budget : ℕ} {d : Drawn} → Agree s s' budget → Drawing s rs budget d → Drawing s' rs budget d
drawing_agrees a done = done
drawing_agrees a (settled {k = k} f rest) =
    let h = f.among in
    rw (a k h) (settled (first_agrees a f) (drawing_agrees (λ j u. a (k + 1 + j) (omega arith)) rest))
drawing_agrees a (later_short {k = k} f rest) =
    let h = f.among in
    later_short (first_agrees a f) (drawing_agrees (λ j u. a (k + 1 + j) (omega arith)) rest)
drawing_agrees a (now_short {r = r} f) = now_short (none_agrees r a f)

pub draws_agree : (s s' : Words) (rs : List ℕ) (budget : ℕ) → Agree s s' budget → draws s rs budget ≡ draws s' rs budget
draws_agree s s' rs budget a = sym (drawing_only (drawing_agrees a (drawing_is s rs budget)))
