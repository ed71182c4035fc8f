-- Exactly one outcome of draws below each bound of a list: said as a relation in the order's words, they come to `draws` and nothing else.
use Rattle.std.specs.Prelude.{◌≡◌, refl, List, [], ◌∷◌, ℕ, ◌+◌, ◌-◌}
use Rattle.words.specs.Draw.{Words, after, quotient, Drawn, all, short, more, draws}
use Rattle.words.specs.GoodWord.{FirstGood, NoneGood, Looked, some_good, none_good}
use Rattle.words.proofs.GoodWord.{look, first_found, none_found}
use Rattle.words.specs.OneOutcomeOfDraws.{Drawing, done, settled, later_short, now_short}

-- The rules of draws one after the other: nothing to draw, a draw that is settled, and one that is not.
pub draws_done : (s : Words) (budget : ℕ) → draws s [] budget ≡ all [] 0
unfolding draws
draws_done s budget = refl

module _ (s : Words) (r : ℕ) (rs : List ℕ) (budget : ℕ) where
  pub draws_settled : {k : ℕ} → FirstGood s r budget k
      → draws s (r ∷ rs) budget ≡ more (quotient r (s k)) (k + 1) (draws (after (k + 1) s) rs (budget - (k + 1)))
  unfolding draws
  draws_settled f = rw (first_found s r budget f, draws)

  pub draws_short : NoneGood s r budget → draws s (r ∷ rs) budget ≡ short 0
  unfolding draws
  draws_short f = rw (none_found s r budget f, draws)

-- They come to `draws`,
pub drawing_is : (s : Words) (rs : List ℕ) (budget : ℕ) → Drawing s rs budget (draws s rs budget)
drawing_is s [] budget = rw (draws_done s budget) done
drawing_is s (r ∷ rs) budget = go (look s r budget) (λ k. drawing_is (after (k + 1) s) rs (budget - (k + 1)))
  where
    step : (k : ℕ) (d : Drawn) → FirstGood s r budget k → Drawing (after (k + 1) s) rs (budget - (k + 1)) d
        → Drawing s (r ∷ rs) budget (more (quotient r (s k)) (k + 1) d)
    step k (all vs n) f rest = settled f rest
    step k (short m) f rest = later_short f rest

    go : Looked s r budget → ((k : ℕ) → Drawing (after (k + 1) s) rs (budget - (k + 1)) (draws (after (k + 1) s) rs (budget - (k + 1))))
        → Drawing s (r ∷ rs) budget (draws s (r ∷ rs) budget)
    go (some_good k f) rest = rw (draws_settled s r rs budget f) (step k (draws (after (k + 1) s) rs (budget - (k + 1))) f (rest k))
    go (none_good f) rest = rw (draws_short s r rs budget f) (now_short f)

-- and to nothing else.
pub drawing_only : {s : Words} {rs : List ℕ} {budget : ℕ} {d : Drawn} → Drawing s rs budget d → draws s rs budget ≡ d
drawing_only (done {s = s} {budget = b}) = draws_done s b
drawing_only (settled {s = s} {r = r} {rs = rs} {budget = b} f rest) = rw (draws_settled s r rs b f, drawing_only rest)
drawing_only (later_short {s = s} {r = r} {rs = rs} {budget = b} f rest) = rw (draws_settled s r rs b f, drawing_only rest)
drawing_only (now_short {s = s} {r = r} {rs = rs} {budget = b} f) = draws_short s r rs b f
