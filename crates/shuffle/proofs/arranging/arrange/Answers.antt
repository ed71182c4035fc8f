-- `arrange` meets its contract: the invariant is `Arranging`.
use Rattle.shuffle.specs.SwapLaws.{arranging_start, arranging_on}
use Rattle.shuffle.proofs.arranging.arrange.Goals as goal

pub loop-place-init : goal.loop-place-init
loop-place-init c = arranging_start _ _ _

pub loop-place-preserved : goal.loop-place-preserved
loop-place-preserved c = arranging_on c.loop-place.invariant c.loop-place-test.true c.swap.ensures c.saturating_sub-at.ensures
