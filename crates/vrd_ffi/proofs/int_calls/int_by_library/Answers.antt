-- `int_by_library` meets its contract: an unknown kind, and the library's answer.
use mathlib.Core.Path.{ap}
use Rattle.signed.specs.Callers.{arg_read}
use Rattle.lent_state.specs.AnswersLaws.{unknown_kind, settled}
use Rattle.vrd_ffi.specs.Handed.{integer_of}
use Rattle.vrd_ffi.proofs.int_calls.int_by_library.Goals as goal

pub returns-then-state-gt3 : goal.returns-then-state-gt3
returns-then-state-gt3 c = unknown_kind _ _ _ _ c.if-state-gt3.true

pub returns : goal.returns
returns c =
    let f = c.ranges in
    let drawn = rw (c.engine_in.ensures, arg_read f.min, arg_read f.max) at c.int_in-a.ensures in
    let state = rw c.integer_of-n.ensures at c.settle.ensures in
    rw c.integer_of-n.ensures (settled _ _ _ _ c.if-state-gt3.false _ _ _ _ _ state (ap integer_of drawn))
