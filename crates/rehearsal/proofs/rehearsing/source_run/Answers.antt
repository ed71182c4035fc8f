-- `source_run` meets its contract: the invariant is that the draws stand after `used` words where the code says.
use Rattle.std.proofs.Common.{◌∙◌, inl, inr, arith}
use Rattle.rehearsal.specs.Kinds.{source_next}
use Rattle.rehearsal.specs.Standing.{looking_start, looking_on, standing_all, standing_short}
use Rattle.rehearsal.proofs.rehearsing.source_run.Goals as goal
use Rattle.rehearsal.proofs.rehearsing.source_run.Goals.{then-is_good, else-is_good}

pub loop-settled-init : goal.loop-settled-init
loop-settled-init g c = λ f h. looking_start _ _

pub returns-then-d-used : goal.returns-then-d-used
returns-then-d-used g c =
    let looking = c.loop-settled.invariant in
    λ f h. standing_short (looking f h).standing c.loop-settled-test.true c.if-d-used.true

pub loop-settled-preserved : goal.loop-settled-preserved
loop-settled-preserved g c =
    λ f h. looking_on (c.loop-settled.invariant f h) c.loop-settled-test.true (omega (arith, c.if-d-used.false))
    (source_next h c.next_u32-w.ensures)
    (elim c.if-is_good.branch [
      | then-is_good w ↦ inl (rw c.is_good.ensures at w.if-is_good.true, w.settled-is, w.bound-is ∙ w.bound_after-bound.ensures)
      | else-is_good w ↦ inr (rw c.is_good.ensures at w.if-is_good.false, w.settled-is, w.bound-is)
    ])

pub returns : goal.returns
returns g c =
    let looking = c.loop-settled.invariant in
    λ f h. standing_all (looking f h).standing c.loop-settled-test.false
