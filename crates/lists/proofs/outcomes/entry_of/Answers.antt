-- `entry_of` meets its contract: the entry at the place, where one was drawn and the list has it.
use Rattle.lists.specs.ChoosingLaws.{entry_there, entry_past, entry_refused}
use Rattle.lists.proofs.outcomes.entry_of.Goals as goal

pub returns-then-place-list : goal.returns-then-place-list
returns-then-place-list c = entry_there _ _ c.if-o-eq-ANSWERED.true

pub returns-else-place-list : goal.returns-else-place-list
returns-else-place-list c = entry_past _ _ c.if-o-eq-ANSWERED.true c.if-place-list.false

pub returns-else-o-eq-ANSWERED : goal.returns-else-o-eq-ANSWERED
returns-else-o-eq-ANSWERED c = entry_refused _ _ c.if-o-eq-ANSWERED.false
