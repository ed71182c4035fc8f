-- `swap` meets its contract: both places are in the list, or one is past its end.
use Rattle.std.proofs.Common.{sym}
use Rattle.shuffle.specs.SwapLaws.{swap_inside, swap_first_outside, swap_second_outside}
use Rattle.shuffle.proofs.swapping.swap.Goals as goal
use Rattle.shuffle.proofs.swapping.swap.Goals.{else-i-list-via-then-i-list+else-j-list, else-i-list-via-else-i-list}

pub returns-then-j-list : goal.returns-then-j-list
returns-then-j-list c = sym (swap_inside _ _ _ c.if-i-list.true c.if-j-list.true)

pub returns-else-i-list : goal.returns-else-i-list
returns-else-i-list c =
    elim c.else-i-list.branch [
      | else-i-list-via-then-i-list+else-j-list w ↦ sym (swap_second_outside _ _ _ w.if-j-list.false)
      | else-i-list-via-else-i-list w ↦ sym (swap_first_outside _ _ _ w.if-i-list.false)
    ]
