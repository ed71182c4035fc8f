-- How many draws below the bounds of a list are settled: the number never falls as the budget grows, and where the budget ends first it is
-- below the number of bounds.
use Rattle.std.specs.Prelude.{◌≡◌, refl, List, ◌∷◌, ℕ, ◌+◌, ◌-◌, ◌≤◌, ◌<◌, length}
use Rattle.std.proofs.Common.{arith}
use Rattle.words.specs.Draw.{Words, after, Drawn, all, short, more, draws}
use Rattle.words.specs.GoodWord.{FirstGood}
use Rattle.words.specs.OneOutcomeOfDraws.{Drawing, done, settled, later_short, now_short}
use Rattle.words.proofs.OneOutcomeOfDraws.{drawing_is, draws_settled}
use Rattle.words.proofs.LargerBudget.{first_larger}

-- The number of draws settled.
abbrev pub settled_of : Drawn → ℕ
settled_of (all vs n) = length vs
settled_of (short m) = m

settled_more : (v n : ℕ) (d : Drawn) → settled_of (more v n d) ≡ settled_of d + 1
settled_more v n (all vs m) = omega arith
settled_more v n (short m) = refl

-- a first draw that is settled, in front of draws of which m are settled
settled_first : {s : Words} {r : ℕ} (rs : List ℕ) {b k m : ℕ} → FirstGood s r b k
    → m ≤ settled_of (draws (after (k + 1) s) rs (b - (k + 1)))
    → m + 1 ≤ settled_of (draws s (r ∷ rs) b)
settled_first {s} {r} rs {b} f h =
    rw (draws_settled s r rs b f, settled_more) (omega arith)

drawing_rises : {s : Words} {rs : List ℕ} {b b' : ℕ} {d : Drawn} → b ≤ b' → Drawing s rs b d → settled_of d ≤ settled_of (draws s rs b')
drawing_rises h done = omega arith
drawing_rises h (settled {rs = rs} f rest) = omega (arith, settled_first rs (first_larger h f) (drawing_rises (omega arith) rest))
drawing_rises h (later_short {rs = rs} f rest) = settled_first rs (first_larger h f) (drawing_rises (omega arith) rest)
drawing_rises h (now_short f) = omega arith

pub settled_rises : (s : Words) (rs : List ℕ) (b b' : ℕ) → b ≤ b' → settled_of (draws s rs b) ≤ settled_of (draws s rs b')
settled_rises s rs b b' h = drawing_rises h (drawing_is s rs b)

drawing_short : {s : Words} {rs : List ℕ} {b m : ℕ} → Drawing s rs b (short m) → m < length rs
drawing_short (later_short f rest) = omega (arith, drawing_short rest)
drawing_short (now_short f) = omega arith

pub short_of_bounds : (s : Words) (rs : List ℕ) (b : ℕ) {m : ℕ} → draws s rs b ≡ short m → m < length rs
short_of_bounds s rs b e = drawing_short (rw e at (drawing_is s rs b))

drawing_many : {s : Words} {rs vs : List ℕ} {b n : ℕ} → Drawing s rs b (all vs n) → length vs ≡ length rs
drawing_many done = refl
drawing_many (settled f rest) = omega (arith, drawing_many rest)

-- Where all are settled there are as many values as bounds.
pub as_many_values : (s : Words) (rs : List ℕ) (b : ℕ) {vs : List ℕ} {n : ℕ} → draws s rs b ≡ all vs n → length vs ≡ length rs
as_many_values s rs b e = drawing_many (rw e at (drawing_is s rs b))
