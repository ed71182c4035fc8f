-- `vrd_double_in` meets its contract: an unknown kind, and the float of the next word.
use Rattle.lent_state.specs.AnswersLaws.{unknown_kind}
use Rattle.vrd_ffi.specs.WordLaws.{double_moved}
use Rattle.vrd_ffi.proofs.float_calls.vrd_double_in.Goals as goal

pub returns-then-state-gt3 : goal.returns-then-state-gt3
returns-then-state-gt3 c = unknown_kind _ _ _ _ c.if-state-gt3.true

pub returns : goal.returns
returns c = rw c.double_of-value.ensures (double_moved _ _ c.if-state-gt3.false c.move_u64-word.ensures)
