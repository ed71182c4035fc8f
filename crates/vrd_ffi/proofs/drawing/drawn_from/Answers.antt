-- `drawn_from` meets its contract: by the first word of either pair of kinds, and by the library.
use Rattle.vrd_ffi.specs.MovesLaws.{second_tried, both_missed}
use Rattle.vrd_ffi.specs.PackedLaws.{tried_draws}
use Rattle.vrd_ffi.proofs.drawing.drawn_from.Goals as goal

pub returns-then-first-lt-MISS : goal.returns-then-first-lt-MISS
returns-then-first-lt-MISS c =
    let tried = rw c.below_within-tried.ensures at c.quick_first-first.ensures in
    let d = tried_draws _ _ _ _ _ c.requires tried c.if-first-lt-MISS.true in
    record { draw = d.0; small = d.1 }

pub returns-then-second-lt-MISS : goal.returns-then-second-lt-MISS
returns-then-second-lt-MISS c =
    let both = second_tried c.quick_first-first.ensures c.if-first-lt-MISS.false (c.quick_pcg-second.ensures _) in
    let tried = rw c.below_within-tried.ensures at both in
    let d = tried_draws _ _ _ _ _ c.requires tried c.if-second-lt-MISS.true in
    record { draw = d.0; small = d.1 }

pub returns : goal.returns
returns c =
    let quick = c.quick_first-first.ensures in
    let same = both_missed quick c.if-first-lt-MISS.false (c.quick_pcg-second.ensures _) c.if-second-lt-MISS.false in
    record { draw = rw same at c.by_library.ensures.draw; small = c.by_library.ensures.small }
