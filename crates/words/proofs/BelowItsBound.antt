-- Every answered value is below its bound, where the words have 32 bits: of one draw, and of draws below a list one for one.
use Rattle.std.specs.Prelude.{◌≡◌, List, ℕ, zero, suc, ◌+◌, ◌^◌, ◌<◌, length, get_or}
use Rattle.std.proofs.Common.{arith, mul_comm, mul-lt-mul_of_pos_right, div-lt_iff_lt-mul, lit<}
use Rattle.words.specs.Refusal.{answered}
use Rattle.words.specs.Draw.{Words, quotient, bounded_by, all, draws}
use Rattle.words.specs.GoodWord.{FirstGood}
use Rattle.words.proofs.GoodWord.{passes_positive}
use Rattle.words.proofs.AnswerIsFirst.{answer_is_first}
use Rattle.words.specs.OneOutcomeOfDraws.{Drawing, done, settled}
use Rattle.words.proofs.OneOutcomeOfDraws.{drawing_is}
use Rattle.words.proofs.SettledNeverFalls.{as_many_values}
use Rattle.words.specs.BelowItsBound.{WordSized}

pub quotient_below : (r w : ℕ) → 0 < r → w < 2 ^ 32 → quotient r w < r
quotient_below r w pos h =
    (div-lt_iff_lt-mul (lit< tt)).1 (rw (mul_comm r (2 ^ 32)) (mul-lt-mul_of_pos_right h pos))

pub first_below : {s : Words} {r budget k : ℕ} → WordSized s → FirstGood s r budget k → quotient r (s k) < r
first_below {s} {r} {k = k} sized f = quotient_below r (s k) (passes_positive r (s k) f.passes) (sized k)

pub bounded_below : (s : Words) (r budget : ℕ) → WordSized s → (bounded_by s r budget).refusal ≡ answered
    → (bounded_by s r budget).value < r
bounded_below s r budget sized a =
    let (k, f, e) = answer_is_first s r budget a in
    rw e (first_below sized f)

-- As many values as bounds, and each below its own.
pub record EachBelow (vs rs : List ℕ) : Type 0 where
  pub as_many : length vs ≡ length rs
  pub below : (j : ℕ) → j < length rs → get_or vs j 0 < get_or rs j 0

drawing_below : {s : Words} {rs vs : List ℕ} {budget n : ℕ} → WordSized s → Drawing s rs budget (all vs n)
    → (j : ℕ) → j < length rs → get_or vs j 0 < get_or rs j 0
drawing_below sized done j h = absurd (omega arith)
drawing_below sized (settled f rest) zero h = first_below sized f
drawing_below sized (settled {k = k} f rest) (suc j) h = drawing_below (λ i. sized (k + 1 + i)) rest j (omega arith)

pub draws_below_lem : (s : Words) (rs : List ℕ) (budget : ℕ) {vs : List ℕ} {n : ℕ} → WordSized s → draws s rs budget ≡ all vs n
    → EachBelow vs rs
draws_below_lem s rs budget sized e =
    record { as_many = as_many_values s rs budget e; below = drawing_below sized (rw e at (drawing_is s rs budget)) }
