-- `vrd_bounded_in` meets its contract: by the first word of either pair of kinds, and by the library.
use Rattle.vrd_ffi.specs.DrawLaws.{bounded_drawn}
use Rattle.vrd_ffi.specs.MovesLaws.{second_tried, both_missed}
use Rattle.vrd_ffi.specs.PackedLaws.{tried_alone}
use Rattle.vrd_ffi.proofs.draw_calls.vrd_bounded_in.Goals as goal

pub returns-then-first-lt-MISS : goal.returns-then-first-lt-MISS
returns-then-first-lt-MISS c =
    let tried = rw c.below_within-tried.ensures at c.quick_first-first.ensures in
    rw c.at_once.ensures (bounded_drawn _ _ _ _ (tried_alone _ _ _ _ tried c.if-first-lt-MISS.true))

pub returns-then-second-lt-MISS : goal.returns-then-second-lt-MISS
returns-then-second-lt-MISS c =
    let both = second_tried c.quick_first-first.ensures c.if-first-lt-MISS.false (c.quick_pcg-second.ensures _) in
    let tried = rw c.below_within-tried.ensures at both in
    rw c.at_once-then-second-lt-MISS.ensures (bounded_drawn _ _ _ _ (tried_alone _ _ _ _ tried c.if-second-lt-MISS.true))

pub returns : goal.returns
returns c =
    let quick = c.quick_first-first.ensures in
    let same = both_missed quick c.if-first-lt-MISS.false (c.quick_pcg-second.ensures _) c.if-second-lt-MISS.false in
    rw c.number_of.ensures (bounded_drawn _ _ _ _ (rw same at c.by_library.ensures.draw))
