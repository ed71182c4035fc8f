-- For code that draws below each bound of a list, one after the other, from any source of words: what holds after some of the draws
-- (`Running`), at the start and at the end.
use Rattle.std.specs.Prelude.{◌≡◌, refl, List, [], ℕ}
use Rattle.std.proofs.Common.{append-nil}
use Rattle.words.specs.Draw.{Words, all, draws}
use Rattle.words.proofs.OneOutcomeOfDraws.{draws_done}
use Rattle.words.specs.DrawsLoop.{Running}

-- Nothing is drawn at the start;
pub running_start : {s : Words} {bounds : List ℕ} {budget : ℕ} → Running s bounds budget 0 [] bounds
running_start {s} {bounds} {budget} = record { passed = []; split = refl; drawn = draws_done s budget }

-- where no bound is left, the call's draws are all settled.
pub running_done : {s : Words} {bounds : List ℕ} {budget used : ℕ} {vs : List ℕ} → Running s bounds budget used vs []
    → draws s bounds budget ≡ all vs used
running_done h = rw (h.split, append-nil) h.drawn
