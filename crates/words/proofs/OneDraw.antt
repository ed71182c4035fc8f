-- One draw below r > 0 is the draws below the list of that one bound: a call of many draws obeys what a single one does.
use Rattle.std.specs.Prelude.{◌≡◌, [], ◌∷◌, ℕ, ◌+◌, ◌<◌, get_or}
use Rattle.std.proofs.Common.{arith}
use Rattle.words.specs.Draw.{Words, draws, bounded_by, outcome_of}
use Rattle.words.specs.GoodWord.{Looked, some_good, none_good}
use Rattle.words.proofs.GoodWord.{look}
use Rattle.words.specs.OneOutcome.{out_of_budget_lem}
use Rattle.words.proofs.OneOutcome.{bounded_only}
use Rattle.words.proofs.AnswerIsFirst.{first_is_answer}
use Rattle.words.proofs.OneOutcomeOfDraws.{draws_done, draws_settled, draws_short}

pub one_draw_lem : (s : Words) (r budget : ℕ) → 0 < r → bounded_by s r budget ≡ outcome_of (λ vs. get_or vs 0 0) (draws s (r ∷ []) budget)
one_draw_lem s r budget pos = go (look s r budget)
  where
    go : Looked s r budget → bounded_by s r budget ≡ outcome_of (λ vs. get_or vs 0 0) (draws s (r ∷ []) budget)
    go (some_good k f) =
        let z : k + 1 + 0 ≡ k + 1 = omega arith in
        rw (draws_settled s r [] budget f, draws_done, z) (first_is_answer s r budget k f)
    go (none_good f) = rw (draws_short s r [] budget f) (bounded_only s r budget (out_of_budget_lem pos f))
