-- The definitions of Ranges by their cases, for code that works them out.
use Rattle.std.specs.Prelude.{◌≡◌, ℕ, ◌-◌, ◌≤◌, ◌<◌}
use Rattle.std.proofs.Common.{le-leb}
use Rattle.std.proofs.lemmas.Bool.{lt-leb}
use Rattle.words.specs.Refusal.{order}
use Rattle.words.specs.Draw.{Words, refused, bounded_by}
use Rattle.words.specs.Outcomes.{raised}
use Rattle.bounded.specs.Ranges.{range_by}

module _ (s : Words) (min max budget : ℕ) where
  pub range_order : max ≤ min → range_by s min max budget ≡ refused order
  unfolding range_by
  range_order h = rw (le-leb max min h)

  pub range_drawn : min < max → range_by s min max budget ≡ raised min (bounded_by s (max - min) budget)
  unfolding range_by
  range_drawn h = rw (lt-leb max min h)
