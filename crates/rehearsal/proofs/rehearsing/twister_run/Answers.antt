-- `twister_run` meets its contract: the invariant is that the draws stand after `used` words where the code says.
use mathlib.Core.Logic.{inl, inr}
use mathlib.Core.Path.{◌∙◌}
use native.Mathlib.Omega.{arith}
use Rattle.rehearsal.specs.Kinds.{twister_next_lem}
use Rattle.rehearsal.specs.Standing.{looking_start, looking_on, standing_all, standing_short}
use Rattle.rehearsal.proofs.rehearsing.twister_run.Goals as goal
use Rattle.rehearsal.proofs.rehearsing.twister_run.Goals.{then-is_good, else-is_good}

pub loop-settled-init : goal.loop-settled-init
loop-settled-init c = looking_start _ _

pub returns-then-d-used : goal.returns-then-d-used
returns-then-d-used c =
    let h = c.loop-settled.invariant in
    standing_short h.standing c.loop-settled-test.true c.if-d-used.true

pub loop-settled-preserved : goal.loop-settled-preserved
loop-settled-preserved c =
    looking_on c.loop-settled.invariant c.loop-settled-test.true (omega (arith, c.if-d-used.false)) (twister_next_lem c.rand_in-s.ensures)
    (elim c.if-is_good.branch [
      | then-is_good w ↦ inl (rw c.is_good.ensures at w.if-is_good.true, w.settled-is, w.bound-is ∙ w.bound_after-bound.ensures)
      | else-is_good w ↦ inr (rw c.is_good.ensures at w.if-is_good.false, w.settled-is, w.bound-is)
    ])

pub returns : goal.returns
returns c =
    let h = c.loop-settled.invariant in
    standing_all h.standing c.loop-settled-test.false
