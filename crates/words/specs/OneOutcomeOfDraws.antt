-- Exactly one outcome of draws below each bound of a list: said as a relation in the order's words, they come to `draws` and nothing else.
use Rattle.std.specs.Prelude.{List, [], ◌∷◌, ℕ, ◌+◌, ◌-◌}
use Rattle.words.specs.Draw.{Words, after, quotient, Drawn, all, short}
use Rattle.words.specs.GoodWord.{FirstGood, NoneGood}

-- What draws below each bound of a list may come to: each is settled by the first good word of the sequence just past the word that
-- settled the one before it, with the budget that is left; where one is not, those before it were settled.
pub data Drawing : Words → List ℕ → ℕ → Drawn → Type 0 where
  done : {s : Words} {budget : ℕ} → Drawing s [] budget (all [] 0)
  settled : {s : Words} {r : ℕ} {rs : List ℕ} {budget k n : ℕ} {vs : List ℕ} → FirstGood s r budget k
      → Drawing (after (k + 1) s) rs (budget - (k + 1)) (all vs n)
      → Drawing s (r ∷ rs) budget (all (quotient r (s k) ∷ vs) (k + 1 + n))
  later_short : {s : Words} {r : ℕ} {rs : List ℕ} {budget k m : ℕ} → FirstGood s r budget k
      → Drawing (after (k + 1) s) rs (budget - (k + 1)) (short m)
      → Drawing s (r ∷ rs) budget (short (m + 1))
  now_short : {s : Words} {r : ℕ} {rs : List ℕ} {budget : ℕ} → NoneGood s r budget → Drawing s (r ∷ rs) budget (short 0)
