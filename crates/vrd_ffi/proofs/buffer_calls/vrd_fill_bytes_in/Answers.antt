-- `vrd_fill_bytes_in` meets its contract: an unknown kind, and the library's filling.
use Rattle.lent_state.specs.AnswersLaws.{unknown_kind}
use Rattle.vrd_ffi.specs.CallLaws.{bytes_filled}
use Rattle.vrd_ffi.proofs.buffer_calls.vrd_fill_bytes_in.Goals as goal

pub returns-then-state-gt3 : goal.returns-then-state-gt3
returns-then-state-gt3 c = unknown_kind _ _ _ _ c.if-state-gt3.true

pub returns : goal.returns
returns c =
    let full = rw c.engine_in.ensures at c.fill_bytes_in-e.ensures in
    bytes_filled _ _ c.if-state-gt3.false _ _ _ _ _ full c.write.ensures
