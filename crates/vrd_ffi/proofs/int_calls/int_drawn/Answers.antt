-- `int_drawn` meets its contract: by the library, by the first word of either pair of kinds, and by any other draw.
use native.Mathlib.Omega.{arith}
use mathlib.Core.Path.{refl}
use Rattle.signed.specs.Callers.{arg_read, test_read, span_read}
use Rattle.vrd_ffi.specs.DrawLaws.{integer_drawn, number_below}
use Rattle.vrd_ffi.specs.MovesLaws.{second_tried, both_missed}
use Rattle.vrd_ffi.specs.PackedLaws.{tried_alone, tried_below}
use Rattle.vrd_ffi.proofs.int_calls.int_drawn.Goals as goal

pub returns-then-max-min : goal.returns-then-max-min
returns-then-max-min c =
    let f = c.ranges in
    rw (arg_read f.min, arg_read f.max) at c.int_by_library.ensures

pub returns-then-last-eq0 : goal.returns-then-last-eq0
returns-then-last-eq0 c =
    let f = c.ranges in
    rw (arg_read f.min, arg_read f.max) at c.int_by_library-then-last-eq0.ensures

pub returns-then-last : goal.returns-then-last
returns-then-last c =
    let f = c.ranges in
    rw (arg_read f.min, arg_read f.max) at c.int_by_library-then-last.ensures

pub returns-then-first-lt-MISS : goal.returns-then-first-lt-MISS
returns-then-first-lt-MISS c =
    let f = c.ranges in
    let ordered = test_read f.min f.max c.if-max-min.false in
    let apart = span_read f.min f.max c.span_of-last.ensures in
    let tried = rw c.below_within-tried.ensures at c.quick_first-first.ensures in
    let hit = c.if-first-lt-MISS.true in
    rw (c.counted.ensures, arg_read f.min, c.at_once.ensures)
    (integer_drawn _ _ f.min f.max _ _ _ ordered apart (omega (arith, c.if-last-eq0.false)) (omega arith) (tried_alone _ _ _ _ tried hit)
    (λ z. tried_below _ _ _ _ 0 tried hit))

pub returns-then-second-lt-MISS : goal.returns-then-second-lt-MISS
returns-then-second-lt-MISS c =
    let f = c.ranges in
    let ordered = test_read f.min f.max c.if-max-min.false in
    let apart = span_read f.min f.max c.span_of-last.ensures in
    let both = second_tried c.quick_first-first.ensures c.if-first-lt-MISS.false (c.quick_pcg-second.ensures _) in
    let tried = rw c.below_within-tried.ensures at both in
    let hit = c.if-second-lt-MISS.true in
    rw (c.counted-then-second-lt-MISS.ensures, arg_read f.min, c.at_once-then-second-lt-MISS.ensures)
    (integer_drawn _ _ f.min f.max _ _ _ ordered apart (omega (arith, c.if-last-eq0.false)) (omega arith) (tried_alone _ _ _ _ tried hit)
    (λ z. tried_below _ _ _ _ 0 tried hit))

pub returns : goal.returns
returns c =
    let f = c.ranges in
    let ordered = test_read f.min f.max c.if-max-min.false in
    let apart = span_read f.min f.max c.span_of-last.ensures in
    let same = both_missed c.quick_first-first.ensures c.if-first-lt-MISS.false (c.quick_pcg-second.ensures _) c.if-second-lt-MISS.false in
    let told = c.by_library.ensures in
    rw (c.counted-2.ensures, arg_read f.min, c.number_of.ensures)
    (integer_drawn _ _ f.min f.max _ _ _ ordered apart (omega (arith, c.if-last-eq0.false)) (omega arith) (rw same at told.draw)
    (number_below _ _ _ refl told.small))
