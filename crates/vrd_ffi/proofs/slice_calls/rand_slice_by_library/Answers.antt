-- `rand_slice_by_library` meets its contract: an unknown kind, and the library's answer.
use mathlib.Core.Path.{ap}
use Rattle.lent_state.specs.AnswersLaws.{unknown_kind, settled}
use Rattle.lists.specs.Slicing as slicing
use Rattle.vrd_ffi.specs.Handed.{start_of}
use Rattle.vrd_ffi.proofs.slice_calls.rand_slice_by_library.Goals as goal

pub returns-then-state-gt3 : goal.returns-then-state-gt3
returns-then-state-gt3 c = unknown_kind _ _ _ _ c.if-state-gt3.true

pub returns : goal.returns
unfolding slicing.start_of
returns c =
    let drawn = rw c.engine_in.ensures at c.rand_slice_in-a.ensures.answer in
    let state = rw c.start_told-n.ensures at c.settle.ensures in
    rw c.start_told-n.ensures (settled _ _ _ _ c.if-state-gt3.false _ _ _ _ _ state (ap start_of drawn))
