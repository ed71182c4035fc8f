-- `by_library` meets its contract: an unknown kind, and the library's answer, packed.
use native.Mathlib.Omega.{arith}
use Rattle.bounded.specs.Answers.{in_numbers}
use Rattle.vrd_ffi.specs.PackedLaws.{packs_kind, kind_below, library_draws, library_below}
use Rattle.vrd_ffi.proofs.drawing.by_library.Goals as goal

pub returns-then-state-gt3 : goal.returns-then-state-gt3
returns-then-state-gt3 c =
    record { draw = packs_kind _ _ _ _ _ (omega (arith, c.if-state-gt3.true)); small = kind_below _ _ }

pub returns : goal.returns
returns c =
    let room = c.requires in
    let drawn = rw c.engine_in.ensures at c.bounded_in-a.ensures.answer in
    let small = c.bounded_in-a.ensures.small in
    let state = rw c.numbered-o.ensures at c.settle.ensures in
    let a = in_numbers c.bounded_in-a.result in
    let draw = library_draws _ _ _ _ _ room (omega (arith, c.if-state-gt3.false)) a _ _ drawn small state in
    let below = library_below _ _ _ _ _ room a _ drawn small in
    record { draw = rw (c.pack.ensures, c.numbered-o.ensures) draw; small = rw (c.pack.ensures, c.numbered-o.ensures) below }
