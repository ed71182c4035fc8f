-- `swap_turn` meets its contract: the turn leaves its values in front of the block, and they are the places of the swaps.
use mathlib.Core.Path.{refl, sym}
use lib.Seq.{length-take-le}
use Rattle.shuffle.specs.PerformingLaws.{turn_swapped, turn_room}
use Rattle.shuffle.proofs.performing.swap_turn.Goals as goal

pub slice_bounds-arrange-end : goal.slice_bounds-arrange-end
slice_bounds-arrange-end c = turn_room _ _ _ _ c.take_turn-next.ensures

pub slice_bounds-arrange-end-2 : goal.slice_bounds-arrange-end-2
slice_bounds-arrange-end-2 c = sym (length-take-le _ _ (turn_room _ _ _ _ c.take_turn-next.ensures))

pub returns : goal.returns
returns c = turn_swapped _ _ _ _ c.take_turn-next.ensures refl c.arrange.ensures
