-- `twister_words` meets its contract: no word yet, and then one more at each entry.
use Rattle.std.proofs.Common.{arith}
use Rattle.ahead.specs.AheadLaws.{put_none, twister_more}
use Rattle.ahead.proofs.twister_words.Goals as goal

pub loop-slot-init : goal.loop-slot-init
loop-slot-init c = put_none

pub loop-slot-preserved : goal.loop-slot-preserved
loop-slot-preserved c = twister_more (omega arith) c.loop-slot.invariant c.rand_in-s.ensures
