-- "A shuffle obeys this draw after draw under one budget" (the order, demand 3), read off an answered call: the draw below r, wherever it
-- stands among the bounds, was settled by the first good word past the words of the draws before it, within the budget that they left.
use Rattle.std.specs.Prelude.{◌≡◌, refl, List, ◌∷◌, ◌++◌, ℕ, ◌+◌, ◌-◌, length}
use Rattle.std.proofs.Common.{sym, ◌∙◌, arith, get_or-append-add}
use Rattle.words.specs.Draw.{Words, after, quotient, Drawn, all, short, more, draws}
use Rattle.words.specs.GoodWord.{FirstGood, Looked, some_good, none_good}
use Rattle.words.proofs.GoodWord.{look}
use Rattle.words.proofs.SettledNeverFalls.{as_many_values}
use Rattle.words.proofs.OneOutcomeOfDraws.{draws_settled, draws_short}
use Rattle.words.specs.DrawAfterDraw.{prepend}
use Rattle.words.proofs.DrawAfterDraw.{draw_after_draw, next_draw}
use Rattle.words.specs.EachInTurn.{InTurn}

pub each_in_turn : (s : Words) (rs : List ℕ) (r : ℕ) (qs : List ℕ) (budget : ℕ) {vs : List ℕ} {n : ℕ}
    → draws s (rs ++ (r ∷ qs)) budget ≡ all vs n → InTurn s rs r budget vs
each_in_turn s rs r qs budget {vs} {n} e = go (draws s rs budget) refl
  where
    not_short : {m : ℕ} → short m ≡ all vs n → ⊥
    not_short p = let z : ◌≡◌ {A = ℕ} 0 1 = cc in omega arith

    settled_here : (us : List ℕ) (m : ℕ) → draws s rs budget ≡ all us m → (k : ℕ) → FirstGood (after m s) r (budget - m) k → (d : Drawn)
        → prepend us m (more (quotient r (s (m + k))) (k + 1) d) ≡ all vs n → InTurn s rs r budget vs
    settled_here us m before k f (all ws x) p =
        let l : length rs ≡ length us + 0 = omega (arith, as_many_values s rs budget before) in
        let q : vs ≡ us ++ (quotient r (s (m + k)) ∷ ws) = cc in
        record {
          earlier = us;
          used = m;
          before = before;
          place = k;
          first = f;
          value = rw (q, l, get_or-append-add);
        }
    settled_here us m before k f (short x) p = absurd (not_short p)

    go : (d : Drawn) → draws s rs budget ≡ d → InTurn s rs r budget vs
    go (short m) before = absurd (not_short (rw before at (sym (draw_after_draw s rs (r ∷ qs) budget) ∙ e)))
    go (all us m) before = look_here (look (after m s) r (budget - m))
      where
        here : prepend us m (draws (after m s) (r ∷ qs) (budget - m)) ≡ all vs n
        here = sym (next_draw s rs r budget before qs) ∙ e

        look_here : Looked (after m s) r (budget - m) → InTurn s rs r budget vs
        look_here (some_good k f) =
            let rest = draws (after (k + 1) (after m s)) qs (budget - m - (k + 1)) in
            settled_here us m before k f rest (rw (draws_settled (after m s) r qs (budget - m) f) at here)
        look_here (none_good f) = absurd (not_short (rw (draws_short (after m s) r qs (budget - m) f) at here))
