-- `vrd_random_range_in` meets its contract: by the library, and by the draw with min added.
use Rattle.vrd_ffi.specs.DrawLaws.{range_drawn_by}
use Rattle.vrd_ffi.specs.MovesLaws.{second_tried, both_missed}
use Rattle.vrd_ffi.specs.PackedLaws.{tried_drew}
use Rattle.vrd_ffi.proofs.draw_calls.vrd_random_range_in.Goals as goal

pub returns-then-max-min : goal.returns-then-max-min
returns-then-max-min c = c.random_range_by_library.ensures

pub returns-then-first-lt-MISS : goal.returns-then-first-lt-MISS
returns-then-first-lt-MISS c =
    let tried = rw c.below_within-tried.ensures at c.quick_first-first.ensures in
    rw c.at_once.ensures (range_drawn_by _ _ _ _ _ c.if-max-min.false (tried_drew _ _ _ _ _ tried c.if-first-lt-MISS.true))

pub returns-then-second-lt-MISS : goal.returns-then-second-lt-MISS
returns-then-second-lt-MISS c =
    let both = second_tried c.quick_first-first.ensures c.if-first-lt-MISS.false (c.quick_pcg-second.ensures _) in
    let tried = rw c.below_within-tried.ensures at both in
    rw c.at_once-then-second-lt-MISS.ensures
    (range_drawn_by _ _ _ _ _ c.if-max-min.false (tried_drew _ _ _ _ _ tried c.if-second-lt-MISS.true))

pub returns : goal.returns
returns c =
    let order = c.if-max-min.false in
    let same = both_missed c.quick_first-first.ensures c.if-first-lt-MISS.false (c.quick_pcg-second.ensures _) c.if-second-lt-MISS.false in
    rw c.number_of.ensures (range_drawn_by _ _ _ _ _ order (rw same at c.by_library.ensures.draw))
