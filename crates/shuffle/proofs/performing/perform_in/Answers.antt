-- `perform_in` meets its contract: the invariant is `Performing`, with a block of its length.
use borrow.Author.Rules.{rules}
use mathlib.Core.Path.{refl, sym}
use Prim.Native.Nat.{◌<◌}
use native.Mathlib.Omega.{arith}
use lib.ListN.{length}
use Rattle.rehearsal.specs.TurnLaws.{turn_takes}
use Rattle.shuffle.specs.PerformingLaws.{performing_start, performing_length, performing_on}
use Rattle.shuffle.specs.PerformingLaws.{performed_all, performed_short}
use Rattle.shuffle.proofs.performing.perform_in.Goals as goal

pub loop-t-init : goal.loop-t-init
loop-t-init c = (performing_start _ _ _ _, refl)

pub shape_of-list-then-d-t : goal.shape_of-list-then-d-t
shape_of-list-then-d-t c = performing_length c.loop-t.invariant.0

pub returns-then-d-t : goal.returns-then-d-t
returns-then-d-t c =
    let more = c.loop-t-test.true in
    performed_short _ _ c.draws_of-d.ensures c.loop-t.invariant.0 more c.if-d-t.true

pub slice_bounds-swap_turn-end : goal.slice_bounds-swap_turn-end
slice_bounds-swap_turn-end c = sym c.loop-t.invariant.1

pub swap_turn-t-requires : goal.swap_turn-t-requires
swap_turn-t-requires c = c.loop-t-test.true

pub loop-t-smaller : goal.loop-t-smaller
loop-t-smaller c =
    let some : 0 < length c.loop-t.block = omega (arith, c.loop-t.invariant.1) in
    let turn = c.swap_turn-t.ensures.turn in
    omega (arith, turn_takes _ _ turn some c.loop-t-test.true (omega (arith, c.if-d-t.false)))

pub loop-t-preserved : goal.loop-t-preserved
loop-t-preserved c =
    let turn = c.swap_turn-t.ensures in
    (performing_on _ _ c.loop-t.invariant.0 turn c.loop-t-test.true, search rules)

pub shape_of-list : goal.shape_of-list
shape_of-list c = performing_length c.loop-t.invariant.0

pub returns : goal.returns
returns c = performed_all _ _ c.draws_of-d.ensures c.loop-t.invariant.0 c.loop-t-test.false
