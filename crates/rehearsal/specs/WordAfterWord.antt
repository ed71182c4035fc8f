-- For code that draws below each bound of a list and looks at one word after the other, from any source: what holds after some words
-- (`Underway`), with one law for each way a word may go.
use Rattle.std.specs.Prelude.{◌≡◌, refl, Bool, true, false, List, [], ◌∷◌, ◌++◌, ℕ, ◌+◌, ◌-◌, ◌≤◌, ◌<◌, leb, length}
use Rattle.std.proofs.Common.{sym, ◌∙◌, ap, append_assoc, arith, leb-true, leb-false}
use Rattle.words.specs.Draw.{Words, after, good, quotient, all, short, draws}
use Rattle.words.specs.GoodWord.{Fails, FirstGood, NoneGood}
use Rattle.words.proofs.GoodWord.{good_passes, bad_fails}
use Rattle.words.proofs.DrawAfterDraw.{next_settled, next_short}
use Rattle.words.specs.DrawsLoop.{Running}
use Rattle.words.proofs.DrawsLoop.{running_start, running_done}

-- None of the first k words is good for the next bound; where no bound is left, no word is looked at.
abbrev pub Missed : Words → List ℕ → ℕ → Type 0
Missed s [] k = k ≡ 0
Missed s (r ∷ rs) k = NoneGood s r k

missed_none : (s : Words) (rest : List ℕ) → Missed s rest 0
missed_none s [] = refl
missed_none s (r ∷ rs) = λ j h. absurd (omega arith)

-- After `taken` words: the draws that gave vs are settled, with `used` of the words, the bounds `rest` are left, and the words since
-- missed.
pub record Underway (s : Words) (bounds : List ℕ) (budget taken : ℕ) (vs rest : List ℕ) : Type 0 where
  pub used : ℕ
  pub since : ℕ
  pub counted : taken ≡ used + since
  pub within : taken ≤ budget
  pub running : Running s bounds budget used vs rest
  pub missed : Missed (after used s) rest since

-- Before the first word no draw is settled and all bounds are left.
pub underway_start : {s : Words} {bounds : List ℕ} {budget : ℕ} → Underway s bounds budget 0 [] bounds
underway_start {s} {bounds} = record {
  used = 0;
  since = 0;
  counted = refl;
  within = omega arith;
  running = running_start;
  missed = missed_none (after 0 s) bounds;
}

module _ {s : Words} {bounds : List ℕ} {budget k : ℕ} {vs : List ℕ} where
  -- the next word is good and settles a draw,
  pub underway_good : {r : ℕ} {rs : List ℕ} → Underway s bounds budget k vs (r ∷ rs) → k < budget → good r (s k) ≡ true
      → Underway s bounds budget (k + 1) (vs ++ (quotient r (s k) ∷ [])) rs
  underway_good {r} {rs} h more g =
      let c = h.counted in
      let f : FirstGood (after h.used s) r (budget - h.used) h.since = record {
        among = omega arith;
        passes = good_passes r (s (h.used + h.since)) (rw c at g);
        none_before = h.missed;
      } in
      let run = h.running in
      record {
        used = h.used + (h.since + 1);
        since = 0;
        counted = omega arith;
        within = omega arith;
        running = record {
          passed = run.passed ++ (r ∷ []);
          split = run.split ∙ sym (append_assoc run.passed (r ∷ []) rs);
          drawn = next_settled s run.passed r budget run.drawn f
              ∙ ap (λ (j : ℕ). all (vs ++ (quotient r (s j) ∷ [])) (h.used + (h.since + 1))) (sym c);
        };
        missed = missed_none (after (h.used + (h.since + 1)) s) rs;
      }

  -- or it is not, and is passed over,
  pub underway_bad : {r : ℕ} {rs : List ℕ} → Underway s bounds budget k vs (r ∷ rs) → k < budget → good r (s k) ≡ false
      → Underway s bounds budget (k + 1) vs (r ∷ rs)
  underway_bad {r} {rs} h more g = record {
    used = h.used;
    since = h.since + 1;
    counted = let c = h.counted in omega arith;
    within = omega arith;
    running = h.running;
    missed = missed;
  }
    where
      fails : Fails r (s (h.used + h.since))
      fails = bad_fails r (s (h.used + h.since)) (rw h.counted at g)

      missed : NoneGood (after h.used s) r (h.since + 1)
      missed j l = go (leb h.since j) refl
        where
          go : (b : Bool) → leb h.since j ≡ b → Fails r (s (h.used + j))
          go true e = let m : j ≡ h.since = omega (arith, leb-true h.since j e) in rw m fails
          go false e = h.missed j (leb-false h.since j e)

  -- until no bound is left,
  pub underway_done : Underway s bounds budget k vs [] → draws s bounds budget ≡ all vs k
  underway_done h =
      let m : h.used ≡ k = let c = h.counted in let z = h.missed in omega arith in
      running_done h.running ∙ ap (all vs) m

  underway_none : {r : ℕ} {rs : List ℕ} (h : Underway s bounds budget k vs (r ∷ rs)) → NoneGood (after h.used s) r (budget - h.used)
      → draws s bounds budget ≡ short (length vs)
  underway_none {r} {rs} h f =
      let run = h.running in
      rw run.split (next_short s run.passed r budget run.drawn rs f)

  -- or the budget is used up.
  pub underway_out : {r : ℕ} {rs : List ℕ} → Underway s bounds budget k vs (r ∷ rs) → budget ≤ k → draws s bounds budget ≡ short (length vs)
  underway_out h u =
      let c = h.counted in
      let w = h.within in
      underway_none h (λ j l. h.missed j (omega arith))
