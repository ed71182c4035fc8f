-- `vrd_choose_in` meets its contract: by the library, and by the draw of a place.
use native.Mathlib.Omega.{arith}
use Rattle.vrd_ffi.specs.DrawLaws.{choice_drawn, once_below, number_below}
use Rattle.vrd_ffi.specs.MovesLaws.{second_tried, both_missed}
use Rattle.vrd_ffi.specs.PackedLaws.{tried_alone, tried_below}
use Rattle.vrd_ffi.proofs.choose_calls.vrd_choose_in.Goals as goal

pub returns-then-n-eq0 : goal.returns-then-n-eq0
returns-then-n-eq0 c = rw c.choice_apart.ensures c.choose_by_library.ensures

pub returns-then-n-gt-LIST_LIMIT : goal.returns-then-n-gt-LIST_LIMIT
returns-then-n-gt-LIST_LIMIT c = rw c.choice_apart-then-n-gt-LIST_LIMIT.ensures c.choose_by_library-then-n-gt-LIST_LIMIT.ensures

pub chosen-requires : goal.chosen-requires
chosen-requires c =
    let tried = rw c.below_within-tried.ensures at c.quick_first-first.ensures in
    once_below c.at_once.ensures (tried_below _ _ _ _ 0 tried c.if-first-lt-MISS.true)

pub returns-then-first-lt-MISS : goal.returns-then-first-lt-MISS
returns-then-first-lt-MISS c =
    let tried = rw c.below_within-tried.ensures at c.quick_first-first.ensures in
    let drawn = tried_alone _ _ _ _ tried c.if-first-lt-MISS.true in
    rw (c.chosen.ensures, c.at_once.ensures)
    (choice_drawn _ _ _ _ (omega (arith, c.if-n-eq0.false)) c.if-n-gt-LIST_LIMIT.false drawn)

pub chosen-requires-then-second-lt-MISS : goal.chosen-requires-then-second-lt-MISS
chosen-requires-then-second-lt-MISS c =
    let both = second_tried c.quick_first-first.ensures c.if-first-lt-MISS.false (c.quick_pcg-second.ensures _) in
    let tried = rw c.below_within-tried.ensures at both in
    once_below c.at_once-then-second-lt-MISS.ensures (tried_below _ _ _ _ 0 tried c.if-second-lt-MISS.true)

pub returns-then-second-lt-MISS : goal.returns-then-second-lt-MISS
returns-then-second-lt-MISS c =
    let both = second_tried c.quick_first-first.ensures c.if-first-lt-MISS.false (c.quick_pcg-second.ensures _) in
    let tried = rw c.below_within-tried.ensures at both in
    let drawn = tried_alone _ _ _ _ tried c.if-second-lt-MISS.true in
    rw (c.chosen-then-second-lt-MISS.ensures, c.at_once-then-second-lt-MISS.ensures)
    (choice_drawn _ _ _ _ (omega (arith, c.if-n-eq0.false)) c.if-n-gt-LIST_LIMIT.false drawn)

pub chosen-requires-2 : goal.chosen-requires-2
chosen-requires-2 c = number_below _ _ _ c.number_of.ensures c.by_library.ensures.small

pub returns : goal.returns
returns c =
    let same = both_missed c.quick_first-first.ensures c.if-first-lt-MISS.false (c.quick_pcg-second.ensures _) c.if-second-lt-MISS.false in
    let drawn = rw same at c.by_library.ensures.draw in
    rw (c.chosen-2.ensures, c.number_of.ensures)
    (choice_drawn _ _ _ _ (omega (arith, c.if-n-eq0.false)) c.if-n-gt-LIST_LIMIT.false drawn)
