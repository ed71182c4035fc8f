-- `source_words` meets its contract: no word yet, and then one more at each entry.
use Rattle.std.proofs.Common.{arith}
use Rattle.ahead.specs.AheadLaws.{source_none, source_more}
use Rattle.ahead.proofs.source_words.Goals as goal

pub loop-slot-init : goal.loop-slot-init
loop-slot-init g c = source_none

pub loop-slot-preserved : goal.loop-slot-preserved
loop-slot-preserved g c = source_more (omega arith) c.loop-slot.invariant c.next_u32-d.ensures
