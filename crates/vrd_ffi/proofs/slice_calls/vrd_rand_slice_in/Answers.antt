-- `vrd_rand_slice_in` meets its contract: by the library, and by the draw.
use native.Mathlib.Omega.{arith}
use Rattle.vrd_ffi.specs.DrawLaws.{start_drawn}
use Rattle.vrd_ffi.specs.MovesLaws.{second_tried, both_missed}
use Rattle.vrd_ffi.specs.PackedLaws.{tried_alone}
use Rattle.vrd_ffi.proofs.slice_calls.vrd_rand_slice_in.Goals as goal

pub returns-then-n-gt-LIST_LIMIT : goal.returns-then-n-gt-LIST_LIMIT
returns-then-n-gt-LIST_LIMIT c = rw c.number_apart.ensures c.rand_slice_by_library.ensures

pub returns-then-window-eq0 : goal.returns-then-window-eq0
returns-then-window-eq0 c = rw c.number_apart-then-window-eq0.ensures c.rand_slice_by_library-then-window-eq0.ensures

pub returns-then-window-n : goal.returns-then-window-n
returns-then-window-n c = rw c.number_apart-then-window-n.ensures c.rand_slice_by_library-then-window-n.ensures

pub returns-then-first-lt-MISS : goal.returns-then-first-lt-MISS
returns-then-first-lt-MISS c =
    let tried = rw c.below_within-tried.ensures at c.quick_first-first.ensures in
    let drawn = tried_alone _ _ _ _ tried c.if-first-lt-MISS.true in
    rw c.at_once.ensures (start_drawn _ _ _ _ _ c.if-n-gt-LIST_LIMIT.false (omega (arith, c.if-window-eq0.false)) c.if-window-n.false drawn)

pub returns-then-second-lt-MISS : goal.returns-then-second-lt-MISS
returns-then-second-lt-MISS c =
    let both = second_tried c.quick_first-first.ensures c.if-first-lt-MISS.false (c.quick_pcg-second.ensures _) in
    let drawn = tried_alone _ _ _ _ (rw c.below_within-tried.ensures at both) c.if-second-lt-MISS.true in
    rw c.at_once-then-second-lt-MISS.ensures
    (start_drawn _ _ _ _ _ c.if-n-gt-LIST_LIMIT.false (omega (arith, c.if-window-eq0.false)) c.if-window-n.false drawn)

pub returns : goal.returns
returns c =
    let same = both_missed c.quick_first-first.ensures c.if-first-lt-MISS.false (c.quick_pcg-second.ensures _) c.if-second-lt-MISS.false in
    let drawn = rw same at c.by_library.ensures.draw in
    rw c.number_of.ensures
    (start_drawn _ _ _ _ _ c.if-n-gt-LIST_LIMIT.false (omega (arith, c.if-window-eq0.false)) c.if-window-n.false drawn)
