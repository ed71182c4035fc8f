-- What the shuffle over a lent table owes, by its ways out.
use Rattle.std.specs.Prelude.{◌≡◌, List, ℕ, Option, Some, None, ◌≤◌, ◌<◌, length}
use Rattle.std.proofs.Math.Path.{sym, ap}
use Rattle.std.proofs.Common.{◌∙◌}
use Rattle.words.specs.Refusal.{answered, too_long, out_of_budget}
use Rattle.words.specs.declared.outcome.Outcome.{Outcome}
use Rattle.words.specs.Draw.{Words, Drawn, all, short, refused, gives, outcome_of}
use Rattle.random.specs.declared.engine.Engine.{Engine}
use Rattle.random.specs.Generator.{later, words_of}
use Rattle.random.specs.GeneratorLaws.{later_none}
use Rattle.random.specs.Lent.{joined_with}
use Rattle.bounded.specs.declared.answers.Answer.{Answer}
use Rattle.bounded.specs.Answers.{answer_in, answer_from}
use Rattle.lists.specs.Limit.{list_limit}
use Rattle.rehearsal.specs.Rehearsal.{draws_of, rehearsed_of}
use Rattle.rehearsal.specs.declared.rehearsing.Rehearsed.{Rehearsed}
use Rattle.shuffle.specs.OneShuffle.{answered_exactly_if, refused_list}
use Rattle.shuffle.specs.Performing.{shuffle_draws}
use Rattle.shuffle.specs.PerformingLaws.{draws_fit, all_words, all_performed}
use Rattle.shuffle.specs.Promises.{OutcomeInPromise, PerformInPromise, ShuffleInPromise}
use Rattle.shuffle.specs.Shuffle.{places_drawn, shuffle_by}
use Rattle.shuffle.specs.ShuffleBudgeted.{shuffle_budgeted}
use Rattle.shuffle.specs.ShuffleLaws.{shuffle_long, shuffle_drawn}

-- ---- what it comes to

module _ (s : Words) (n budget : ℕ) where
  -- the list is too long,
  pub outcome_long : {o : Outcome} → o ≡ refused too_long → list_limit < n → o ≡ shuffle_by s n budget
  outcome_long p h = p ∙ sym (shuffle_long s budget n h)

  -- or its draws are rehearsed,
  module _ {d : Rehearsed} (fits : n ≤ list_limit) (told : d ≡ rehearsed_of (draws_of s (shuffle_draws n budget))) where
    by_rehearsal : {o : Outcome} {u : Option ℕ} → d.used ≡ u
        → ((drawn : Drawn) → (rehearsed_of drawn).used ≡ u → o ≡ outcome_of (λ places. 0) drawn)
        → o ≡ shuffle_by s n budget
    by_rehearsal q said =
        let same : d ≡ rehearsed_of (places_drawn s n budget) = rw (draws_fit n budget fits) at told in
        said (places_drawn s n budget) (sym (ap (λ (x : Rehearsed). x.used) same) ∙ q) ∙ sym (shuffle_drawn s budget n fits)

    -- and all are settled,
    pub outcome_all : {o : Outcome} {used : ℕ} → d.used ≡ Some used → o ≡ gives 0 used → o ≡ shuffle_by s n budget
    outcome_all {o} {used} q p = by_rehearsal q go
      where
        go : (drawn : Drawn) → (rehearsed_of drawn).used ≡ Some used → o ≡ outcome_of (λ places. 0) drawn
        go (all places m) c = let same : used ≡ m = cc in p ∙ ap (gives 0) same
        go (short m) c = cc

    -- or not.
    pub outcome_short : {o : Outcome} → d.used ≡ None → o ≡ refused out_of_budget → o ≡ shuffle_by s n budget
    outcome_short {o} q p = by_rehearsal q go
      where
        go : (drawn : Drawn) → (rehearsed_of drawn).used ≡ None → o ≡ outcome_of (λ places. 0) drawn
        go (all places used) c = cc
        go (short m) c = p

-- ---- and the call that goes by it

module _ {o : Outcome} {a : Answer Engine} (e : Engine) (mt list : List ℕ) (budget : ℕ)
    (told : OutcomeInPromise e mt (length list) budget o) where
  -- It is refused, and nothing has changed;
  pub shuffled_refused : (o.refusal ≡ answered → ⊥) → a ≡ answer_in o e → ShuffleInPromise e mt list budget a mt list
  unfolding answer_from
  shuffled_refused n p =
      let s = words_of (joined_with e mt) in
      let refusal : (shuffle_by s (length list) budget).refusal ≡ answered → ⊥ = λ z. n (ap (λ (x : Outcome). x.refusal) told ∙ z) in
      let none = (shuffle_budgeted (length list)).unused s budget refusal in
      (rw (p, told, none, later_none (joined_with e mt)), sym (refused_list s list budget refusal))

  -- or it is performed.
  pub shuffled_all : {next : Engine} {mt' list' : List ℕ} → o.refusal ≡ answered → PerformInPromise e mt list budget next mt' list'
      → a ≡ answer_in o next
      → ShuffleInPromise e mt list budget a mt' list'
  unfolding answer_from
  shuffled_all z p q =
      let s = words_of (joined_with e mt) in
      let (fits, places, n, drawn) = (answered_exactly_if s (length list) budget).0 (sym (ap (λ (x : Outcome). x.refusal) told) ∙ z) in
      let used : (shuffle_by s (length list) budget).used ≡ n =
      ap (λ (x : Outcome). x.used) (shuffle_drawn s budget (length list) fits ∙ ap (outcome_of (λ places. 0)) drawn) in
      let moved = p.0 ∙ ap (λ (x : ℕ). later x (joined_with e mt)) (all_words s list budget fits drawn ∙ sym used) in
      (rw (q, told, moved), p.1 ∙ all_performed s list budget fits drawn)
