-- `choose_by_library` meets its contract: an unknown kind, and the library's answer.
use mathlib.Core.Path.{ap}
use Rattle.lent_state.specs.AnswersLaws.{unknown_kind, settled}
use Rattle.vrd_ffi.specs.Handed.{choice_of}
use Rattle.vrd_ffi.proofs.choose_calls.choose_by_library.Goals as goal

pub returns-then-state-gt3 : goal.returns-then-state-gt3
returns-then-state-gt3 c = unknown_kind _ _ _ _ c.if-state-gt3.true

pub returns : goal.returns
returns c =
    let drawn = rw c.engine_in.ensures at c.choose_in-a.ensures.answer in
    let state = rw c.choice_told-c.ensures at c.settle.ensures in
    rw c.choice_told-c.ensures (settled _ _ _ _ c.if-state-gt3.false _ _ _ _ _ state (ap choice_of drawn))
