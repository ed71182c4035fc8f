-- "So a larger budget never changes an answer given" (the order, demand 3): of one draw, of draws below a list, and so of every call that
-- works its answer out of such draws.
use Rattle.std.specs.Prelude.{◌≡◌, refl, List, ℕ, ◌≤◌}
use Rattle.std.proofs.Common.{sym, ◌∙◌, arith}
use Rattle.words.specs.Refusal.{answered}
use Rattle.words.specs.Draw.{Words, bounded_by, Drawn, all, short, draws, outcome_of}
use Rattle.words.specs.GoodWord.{FirstGood}
use Rattle.words.proofs.AnswerIsFirst.{answer_is_first, first_is_answer}
use Rattle.words.specs.OneOutcomeOfDraws.{Drawing, done, settled}
use Rattle.words.proofs.OneOutcomeOfDraws.{drawing_is, drawing_only}

-- the first good word stays the first
pub first_larger : {s : Words} {r b b' k : ℕ} → b ≤ b' → FirstGood s r b k → FirstGood s r b' k
first_larger h f = record { among = let u = f.among in omega arith; passes = f.passes; none_before = f.none_before }

pub bounded_larger : (s : Words) (r b b' : ℕ) → b ≤ b' → (bounded_by s r b).refusal ≡ answered → bounded_by s r b' ≡ bounded_by s r b
bounded_larger s r b b' h a =
    let (k, f, e) = answer_is_first s r b a in
    first_is_answer s r b' k (first_larger h f) ∙ sym e

drawing_larger : {s : Words} {rs : List ℕ} {b b' n : ℕ} {vs : List ℕ} → b ≤ b' → Drawing s rs b (all vs n) → Drawing s rs b' (all vs n)
drawing_larger h done = done
drawing_larger h (settled f rest) = settled (first_larger h f) (drawing_larger (omega arith) rest)

pub draws_larger : (s : Words) (rs : List ℕ) (b b' : ℕ) {vs : List ℕ} {n : ℕ} → b ≤ b' → draws s rs b ≡ all vs n → draws s rs b' ≡ all vs n
draws_larger s rs b b' h e = drawing_only (drawing_larger h (rw e at (drawing_is s rs b)))

-- A call that was answered makes the same draws with a larger budget, so its value, its words used and its lists are the same.
pub call_larger : (value : List ℕ → ℕ) (s : Words) (rs : List ℕ) (b b' : ℕ) → b ≤ b'
    → (outcome_of value (draws s rs b)).refusal ≡ answered → draws s rs b' ≡ draws s rs b
call_larger value s rs b b' h = go (draws s rs b) refl
  where
    go : (d : Drawn) → draws s rs b ≡ d → (outcome_of value d).refusal ≡ answered → draws s rs b' ≡ d
    go (all vs n) e a = draws_larger s rs b b' h e
    go (short m) e a = absurd (omega arith)
