-- The shuffle by its cases, for code that works it out.
use Rattle.std.specs.Prelude.{◌≡◌, List, [], ℕ, ◌-◌, ◌≤◌, ◌<◌, length}
use Rattle.std.proofs.Common.{arith, lt-ltb, le-ltb}
use Rattle.words.specs.Refusal.{too_long}
use Rattle.words.specs.Draw.{Words, all, refused, outcome_of}
use Rattle.words.proofs.OneOutcomeOfDraws.{draws_done}
use Rattle.lists.specs.Limit.{list_limit}
use Rattle.rehearsal.specs.BoundsLaws.{bounds_none}
use Rattle.shuffle.specs.Shuffle.{places_drawn, shuffle_by, list_after, shuffled}

module _ (s : Words) (budget : ℕ) where
  -- A list above the limit is refused,
  pub shuffle_long : (n : ℕ) → list_limit < n → shuffle_by s n budget ≡ refused too_long
  unfolding shuffle_by
  shuffle_long n h = rw (lt-ltb list_limit n h)

  -- and stays as it is.
  pub list_long : (l : List ℕ) → list_limit < length l → shuffled s l budget ≡ l
  unfolding shuffled
  list_long l h = rw (lt-ltb list_limit (length l) h)

  -- Any other comes to what its draws come to,
  pub shuffle_drawn : (n : ℕ) → n ≤ list_limit → shuffle_by s n budget ≡ outcome_of (λ places. 0) (places_drawn s n budget)
  unfolding shuffle_by
  shuffle_drawn n h = rw (le-ltb list_limit n h)

  -- and is arranged by the places drawn.
  pub list_drawn : (l : List ℕ) → length l ≤ list_limit → shuffled s l budget ≡ list_after l (places_drawn s (length l) budget)
  unfolding shuffled
  list_drawn l h = rw (le-ltb list_limit (length l) h)

  -- "Lengths 0 and 1 use no word."
  pub none_drawn : (n : ℕ) → n < 2 → places_drawn s n budget ≡ all [] 0
  none_drawn n h =
      let z : n - 1 ≡ 0 = omega arith in
      rw (z, bounds_none) (draws_done s budget)
