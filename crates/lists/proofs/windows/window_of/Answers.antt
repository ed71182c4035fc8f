-- `window_of` meets its contract: no sum wraps, since the window is held against what is left after the start.
use Rattle.std.proofs.Common.{◌+◌, ◌≤◌, ◌<◌, length, sym, arith}
use Rattle.lists.specs.SlicingLaws.{cut_within, part_past, place_within, place_past}
use Rattle.lists.proofs.windows.window_of.Goals as goal
use Rattle.lists.proofs.windows.window_of.Goals.{then-start-n+else-window-n, else-start-n}

pub returns-then-window-n : goal.returns-then-window-n
returns-then-window-n c =
    let a = c.args in
    let within : a.start + a.window ≤ length a.list.now = omega (arith, c.if-window-n.true, c.if-start-n.true) in
    (cut_within _ _ _ within, place_within a.list.ref_ptr _ _ _ within)

pub returns : goal.returns
returns c =
    -- where the branches meet, the list ends before the part does
    let past : length c.args.list.now < c.args.start + c.args.window =
    elim c.if-start-n.branch [ then-start-n+else-window-n t ↦ omega arith | else-start-n t ↦ omega arith ] in
    (sym (part_past _ _ _ past), place_past c.args.list.ref_ptr _ _ _ past)
