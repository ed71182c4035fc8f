-- "A shuffle obeys this draw after draw under one budget" (the order, demand 3): wherever a list of bounds is split, the draws below its
-- second part start just past the word that settled the last draw of its first, with the budget that is left.
use Rattle.std.specs.Prelude.{◌≡◌, refl, List, [], ◌∷◌, ◌++◌, ℕ, ◌+◌, ◌-◌, length}
use Rattle.std.proofs.Common.{◌∙◌, ap, arith}
use Rattle.std.proofs.Math.Path.{fun_ext}
use Rattle.words.specs.Draw.{Words, after, quotient, Drawn, all, short, more, draws}
use Rattle.words.specs.GoodWord.{FirstGood, NoneGood, Looked, some_good, none_good}
use Rattle.words.proofs.GoodWord.{look}
use Rattle.words.proofs.OneOutcomeOfDraws.{draws_done, draws_settled, draws_short}
use Rattle.words.specs.DrawAfterDraw.{prepend}

-- Draws, and where all are settled further ones, which are told the words used so far.
abbrev pub and_then : Drawn → (ℕ → Drawn) → Drawn
and_then (all vs n) further = prepend vs n (further n)
and_then (short m) further = short m

prepend_none : (d : Drawn) → prepend [] 0 d ≡ d
prepend_none (all ws m) = ap (all ws) (omega arith)
prepend_none (short m) = ap short (omega arith)

more_prepend : (v m : ℕ) (vs : List ℕ) (n : ℕ) (d : Drawn) → more v m (prepend vs n d) ≡ prepend (v ∷ vs) (m + n) d
more_prepend v m vs n (all ws x) = ap (all (v ∷ (vs ++ ws))) (omega arith)
more_prepend v m vs n (short x) = ap short (omega arith)

more_then : (v m : ℕ) (d : Drawn) (f g : ℕ → Drawn) → ((n : ℕ) → f n ≡ g (m + n)) → more v m (and_then d f) ≡ and_then (more v m d) g
more_then v m (all vs n) f g e = more_prepend v m vs n (f n) ∙ ap (prepend (v ∷ vs) (m + n)) (e n)
more_then v m (short n) f g e = refl

-- past no word, and past m words and then n
pub after_none : (s : Words) → after 0 s ≡ s
after_none s = fun_ext (λ k. ap s (omega arith))

pub after_after : (m n : ℕ) (s : Words) → after n (after m s) ≡ after (m + n) s
after_after m n s = fun_ext (λ k. ap s (omega arith))

-- The law.
pub draw_after_draw : (s : Words) (rs qs : List ℕ) (budget : ℕ)
    → draws s (rs ++ qs) budget ≡ and_then (draws s rs budget) (λ n. draws (after n s) qs (budget - n))
draw_after_draw s [] qs budget =
    let z : budget - 0 ≡ budget = omega arith in
    rw (draws_done s budget, prepend_none, after_none s, z)
draw_after_draw s (r ∷ rs) qs budget =
    go (look s r budget) (λ k. draw_after_draw (after (k + 1) s) rs qs (budget - (k + 1)))
  where
    Rest : Type 0
    Rest = (k : ℕ) → draws (after (k + 1) s) (rs ++ qs) (budget - (k + 1))
        ≡ and_then (draws (after (k + 1) s) rs (budget - (k + 1))) (λ n. draws (after n (after (k + 1) s)) qs (budget - (k + 1) - n))

    onward : (k n : ℕ) → draws (after n (after (k + 1) s)) qs (budget - (k + 1) - n) ≡ draws (after (k + 1 + n) s) qs (budget - (k + 1 + n))
    onward k n =
        let b : budget - (k + 1) - n ≡ budget - (k + 1 + n) = omega arith in
        rw (b, after_after (k + 1) n s)

    go : Looked s r budget → Rest
        → draws s (r ∷ (rs ++ qs)) budget ≡ and_then (draws s (r ∷ rs) budget) (λ n. draws (after n s) qs (budget - n))
    go (some_good k f) rest =
        rw (draws_settled s r (rs ++ qs) budget f, draws_settled s r rs budget f, rest k)
        (more_then (quotient r (s k)) (k + 1) (draws (after (k + 1) s) rs (budget - (k + 1)))
        (λ n. draws (after n (after (k + 1) s)) qs (budget - (k + 1) - n)) (λ n. draws (after n s) qs (budget - n)) (onward k))
    go (none_good f) rest = rw (draws_short s r (rs ++ qs) budget f, draws_short s r rs budget f)

-- The same read at one bound: the draws below rs were all settled, with n words, and the next is below r.
module _ (s : Words) (rs : List ℕ) (r budget : ℕ) {vs : List ℕ} {n : ℕ} (before : draws s rs budget ≡ all vs n) where
  pub next_draw : (qs : List ℕ) → draws s (rs ++ (r ∷ qs)) budget ≡ prepend vs n (draws (after n s) (r ∷ qs) (budget - n))
  next_draw qs = draw_after_draw s rs (r ∷ qs) budget ∙ rw before

  pub next_settled : {k : ℕ} → FirstGood (after n s) r (budget - n) k
      → draws s (rs ++ (r ∷ [])) budget ≡ all (vs ++ (quotient r (s (n + k)) ∷ [])) (n + (k + 1))
  next_settled {k} f =
      let z : k + 1 + 0 ≡ k + 1 = omega arith in
      rw (next_draw [], draws_settled (after n s) r [] (budget - n) f, draws_done, z)

  pub next_short : (qs : List ℕ) → NoneGood (after n s) r (budget - n) → draws s (rs ++ (r ∷ qs)) budget ≡ short (length vs)
  next_short qs f =
      let z : length vs + 0 ≡ length vs = omega arith in
      rw (next_draw qs, draws_short (after n s) r qs (budget - n) f, z)
