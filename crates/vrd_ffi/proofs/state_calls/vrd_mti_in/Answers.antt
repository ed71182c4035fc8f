-- `vrd_mti_in` meets its contract: an unknown kind, and the library's position.
use Rattle.lent_state.specs.AnswersLaws.{of_known_lem, of_unknown}
use Rattle.vrd_ffi.proofs.state_calls.vrd_mti_in.Goals as goal

pub returns-then-state-gt3 : goal.returns-then-state-gt3
returns-then-state-gt3 c = of_unknown _ _ _ c.if-state-gt3.true

pub returns : goal.returns
returns c = rw (c.mti_in-mti.ensures, c.engine_in.ensures) (of_known_lem _ _ _ c.if-state-gt3.false)
