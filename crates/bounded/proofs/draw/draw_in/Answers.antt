-- `draw_in` meets its contract: the invariant is `Trying`, and each way through the loop is one law of it.
use Rattle.std.proofs.Common.{◌<◌, arith}
use Rattle.words.proofs.BelowItsBound.{quotient_below}
use Rattle.bounded.specs.Trying.{trying_start, trying_zero, trying_good, trying_bad, trying_out}
use Rattle.bounded.proofs.draw.draw_in.Goals as goal

pub returns-then-r-eq0-clause-draw : goal.returns-then-r-eq0-clause-draw
returns-then-r-eq0-clause-draw c = trying_zero _ c.if-r-eq0.true

pub loop-used-init : goal.loop-used-init
loop-used-init c = trying_start

pub returns-then-is_good : goal.returns-then-is_good
returns-then-is_good c =
    let pos : 0 < c.args.r = omega (arith, c.if-r-eq0.false) in record {
      draw = trying_good c.loop-used.invariant _ c.loop-used-test.true c.next_u32-w.ensures c.is_good.ensures c.if-is_good.true
          c.quotient-value.ensures;
      small = rw c.quotient-value.ensures (quotient_below _ _ pos (omega (arith, c.next_u32-w.type_inv)));
    }

pub loop-used-preserved : goal.loop-used-preserved
loop-used-preserved c =
    trying_bad c.loop-used.invariant c.loop-used-test.true c.next_u32-w.ensures c.is_good.ensures c.if-is_good.false

pub returns-clause-draw : goal.returns-clause-draw
returns-clause-draw c =
    let pos : 0 < c.args.r = omega (arith, c.if-r-eq0.false) in
    trying_out c.loop-used.invariant _ pos c.loop-used-test.false
